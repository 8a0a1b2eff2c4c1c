-- What is read of a sound body; and that the body that a desk's call found is one, of which the call replies.
-- Assumes nothing.
use Prim.Native.Nat.{ℕ, ◌≤◌}
use native.Mathlib.Omega.{arith}
use mathlib.Core.Path.{◌≡◌, refl, ap}
use mathlib.Core.Bool.{true}
use mathlib.Core.List.{List}
use lib.ListN.{length}
use borrow.Author.Tests.{le-leb, lt-ltb}
use Rattle.rules.specs.Loops.{between}
use Rattle.rules.specs.Pile.{Side, Pile, rights, tonnage, top_limit}
use Rattle.rules.specs.Layout.{head_of, body_view, desks, pile_of}
use Rattle.rules.specs.Book.{place, desk_answer}
use Rattle.rules.specs.Record.{desk_start, desk_count}
use Rattle.rules.proofs.Loops.Logic.{and_both}
use Rattle.rules.proofs.Loops.Refusals.{reply_refused, reply_value}
use Rattle.rules.proofs.Pile.Facts.{PileFacts, facts}
use Rattle.rules.proofs.Pile.Tonnage.{rights_most, tonnage_within}
use Rattle.rules.proofs.File.Readable.{BookFacts, book_facts}
use Rattle.rules.proofs.File.Found.{found_readable, found_desk, found_place, desk_0_fetch}
use Rattle.rules.proofs.Record.OfBody.{found_start, found_count}
use Rattle.audit.specs.Audits.{body_there, rights_in, tonnage_in}
use Rattle.book.specs.Inner.{SoundBody, SoughtBody}
use Rattle.rules.proofs.File.Positions.{body_within}

-- a sound body, of as many desks as it was told
module _ (i : ℕ) (b : List ℕ) {n at : ℕ} (sought : SoughtBody i b n at) where
  abbrev P : Pile
  P = body_view (desks b) b at

  pile_sound : PileFacts (desks b) P
  pile_sound = facts (desks b) P sought.sound.passes

  there : body_there (desks b) at (length b) ≡ true
  unfolding body_there between
  there =
      let body = sought.sound.body in
      let least : 1 ≤ desks b = omega (arith, sought.sound.desk) in
      and_both (and_both (le-leb _ _ least) (le-leb _ _ body.desks_most)) (le-leb _ _ body.within)

  pub rights_read : (s : Side) → rights_in s n at b i ≡ rights (desks b) P s i
  unfolding rights_in
  rights_read s = rw (sought.count, and_both there (lt-ltb _ _ sought.sound.desk))

  pub rights_small : (s : Side) → rights_in s n at b i ≤ top_limit
  rights_small s = rw (rights_read s) (rights_most (desks b) P pile_sound s i sought.sound.desk)

-- the tonnage is asked as desk 0 asks
module _ (b : List ℕ) {n at : ℕ} (sought : SoughtBody 0 b n at) where
  pub tonnage_read : tonnage_in n at b ≡ tonnage (desks b) (body_view (desks b) b at)
  unfolding tonnage_in
  tonnage_read = rw (sought.count, there 0 b sought)

  pub tonnage_small : tonnage_in n at b ≤ top_limit
  tonnage_small =
      let sound = pile_sound 0 b sought in
      rw tonnage_read (omega (arith, (tonnage_within (desks b) _ sound).1, sound.opening.top_limit_lem))

-- the pile was found
module _ (i : ℕ) (b : List ℕ) (number : ℕ) (found : desk_answer i b number ≡ 0) where
  abbrev start : ℕ
  start = desk_start i b number

  book : BookFacts b
  book = book_facts b (found_readable i b number found)

  pub pile_is : body_view (desks b) b start ≡ pile_of b (place b number)
  unfolding pile_of
  pile_is = ap (body_view (desks b) b) (found_start i b number found)

  body_sound : SoundBody i b start
  body_sound =
      record {
        desk = found_desk i b number found;
        body =
            record {
              desks_most = book.sizes.desks_most;
              within = omega (arith, found_start i b number found, book.sized, body_within (head_of b) (place b number) (found_place i b number found));
            };
        passes = rw pile_is (book.bodies (place b number) (found_place i b number found));
      }

  pub sought_sound : SoughtBody i b (desk_count i b number) start
  sought_sound = record { sound = body_sound; count = found_count i b number found }

  pub rights_there : {at : ℕ} → at ≡ start → (s : Side) → rights_in s (desks b) at b i ≡ rights (desks b) (pile_of b (place b number)) s i
  rights_there is s = rw (is, ← pile_is) (rights_read i b (record { sound = body_sound; count = refl }) s)

-- A query replies by the body that was found, or with the number of its refusal alone.
pub ruleset queries = (sought_sound, pile_is, reply_refused, reply_value)

pub ruleset tonnage_queries = (queries, tonnage_read, tonnage_small, desk_0_fetch)
