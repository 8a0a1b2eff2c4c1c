-- A record that passes its own check is the record of every pile that agrees with it.
-- Assumes nothing.
use Prim.Native.Nat.{ℕ}
use mathlib.Core.Path.{◌≡◌, ap₂, sym, ◌∙◌}
use mathlib.Core.Logic.{inl, inr}
use mathlib.Core.List.{◌∷◌}
use lib.ListN.{length, get_or}
use Rattle.rules.specs.Pile.{Pile}
use Rattle.rules.specs.Layout.{column}
use Rattle.rules.specs.Record.{Record, record_view, record_of, padded, share_places, tally_places}
use Rattle.rules.proofs.Pile.Agree.{Agree}
use Rattle.rules.proofs.Record.Facts.{RecordFacts}
use Rattle.rules.proofs.Record.Unused.{unused_share, unused_earned, unused_give}
use Rattle.rules.proofs.Record.RecordOf.{shares_are, tallies_are}
use Rattle.rules.proofs.Record.Padded.{padded_is}

module _ (r : Record) (f : RecordFacts r) where
  pub record_of_agreeing : length r.shares ≡ share_places → length r.tallies ≡ tally_places → (p : Pile) → Agree r.n p (record_view r) → record_of r.n p ≡ r
  unfolding record_of
  record_of_agreeing shares tallies p a =
      λ x. record { n = r.n; floor = a.floor x; top = a.top x; shares = sym shares_same x; tallies = sym tallies_same x }
    where
      shares_same : r.shares ≡ (record_of r.n p).shares
      shares_same =
          shares_are r.n p r.shares shares (λ s j j<8.
          ap₂ (λ (x y : ℕ). get_or (x ∷ y ∷ r.shares) (column 8 s j) 0) a.floor a.top
          ∙ padded_is r.n (p.share s) j _ (a.share s j) (λ n≤j. unused_share r.n (record_view r) f.shares_unused s j n≤j j<8))

      tallies_same : r.tallies ≡ (record_of r.n p).tallies
      tallies_same =
          tallies_are r.n p r.tallies tallies (λ s i i<8. padded_is r.n (p.earned s) i _ (a.earned s i) (λ n≤i. unused_earned r.n (record_view r) f.places_unused s i n≤i i<8))
          (λ s i j i<8 j<8. padded_is r.n (λ i. padded r.n (p.give s i) j) i _
          (λ l. sym (padded_is r.n (p.give s i) j _ (a.give s i j l) (λ n≤j. unused_give r.n (record_view r) f.places_unused s i j i<8 j<8 (inr n≤j))))
          (λ n≤i. unused_give r.n (record_view r) f.places_unused s i j i<8 j<8 (inl n≤i)))
