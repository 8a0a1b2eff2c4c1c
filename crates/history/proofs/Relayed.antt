-- Every list of entered acts has a history. Before each act its desk takes the newest copy of the desk that has all acts so far, so it finds them all;
-- in the end every desk takes that copy.
-- Assumes nothing.
use Prim.Native.Nat.{ℕ, zero, suc, ◌≤◌, ◌<◌}
use native.Mathlib.Nat.{le_refl}
use native.Mathlib.Decide.{ℕ_discrete}
use native.Mathlib.Omega.{arith}
use mathlib.Core.Path.{◌≡◌, refl, ap, ◌∙◌}
use mathlib.Core.Logic.{◌≢◌, by_cases}
use mathlib.Core.Bool.{cond}
use mathlib.Core.List.{List, [], ◌∷◌, ◌++◌}
use lib.ListN.{length, length-append}
use lib.Dec.{eqb}
use borrow.Author.Tests.{eq-eqb, ne_eqb}
use Rattle.history.specs.Replica.{Replica, act, take, Valid}
use Rattle.history.specs.Books.{at}
use Rattle.history.specs.Ledger.{Acts, joined, ledger}
use Rattle.history.specs.Guarantees.{◌⊆◌}
use Rattle.history.proofs.Laws.{run, Entered, Laws}
use Rattle.history.proofs.Sets.{right, gained_wider}
use Rattle.history.proofs.Moments.{History, latest, Fits, before, next}
use Rattle.history.proofs.Entries.{entries, lone_run, entries_joined}
use Rattle.history.proofs.Good.{ledger_sound}
use Rattle.history.proofs.Accepted.{ran}

module _ (R : Replica) (n : ℕ) (start : R.State) where
  -- One desk holds all acts of h, and they are es.
  pub record Held (es : List (ℕ × R.Act)) (h : History R) : Type 0 where
    pub valid : Valid n h
    pub holder : ℕ
    pub there : holder < n
    pub all : (i : ℕ) → i < n → latest R start h i ⊆ latest R start h holder
    pub acts : entries h (latest R start h holder) ≡ es

  -- Every desk holds just the acts es.
  pub record Level (es : List (ℕ × R.Act)) (h : History R) : Type 0 where
    pub valid : Valid n h
    pub set : Acts
    pub all : (i : ℕ) → i < n → latest R start h i ≡ set
    pub acts : entries h set ≡ es

  -- a take of a copy with all that the taker holds, and an act that fits: what each desk then holds
  took : (e j m : ℕ) (h : History R) → latest R start h e ⊆ ledger R start h m j → (i : ℕ)
      → latest R start (take e j m ∷ h) i ≡ cond (eqb i e) (ledger R start h m j) (latest R start h i)
  took e j m h sub i = next R start (take e j m) h i ∙ ap (λ S. cond (eqb i e) S (latest R start h i)) (gained_wider sub)

  acted : (e : ℕ) (a : R.Act) (h : History R) → Fits R start h e a → (i : ℕ)
      → latest R start (act e a ∷ h) i ≡ cond (eqb i e) (joined (length h) (latest R start h e)) (latest R start h i)
  acted e a h fits i = next R start (act e a) h i ∙ rw fits

  module _ {es : List (ℕ × R.Act)} {h : History R} (held : Held es h) (e : ℕ) (a : R.Act) (e<n : e < n)
      (accepted : R.act_answer e a (run R start es) ≡ 0) where
    abbrev S : Acts
    S = latest R start h held.holder

    abbrev pub asked : History R
    asked = take e held.holder (length h) ∷ h

    abbrev pub entered : History R
    entered = act e a ∷ asked

    asked_holds : (i : ℕ) → latest R start asked i ≡ cond (eqb i e) S (latest R start h i)
    asked_holds = took e held.holder (length h) h (held.all e e<n)

    asked_all : latest R start asked e ≡ S
    asked_all = asked_holds e ∙ rw (eq-eqb e e refl)

    fits : Fits R start asked e a
    unfolding entries
    fits = rw (asked_all, lone_run R start asked S, held.acts) accepted

    entered_all : latest R start entered e ≡ joined (length asked) S
    entered_all = acted e a asked fits e ∙ rw (eq-eqb e e refl, asked_all)

    -- the other desks hold what they held
    pub entered_others : (i : ℕ) → i ≢ e → latest R start entered i ≡ latest R start h i
    entered_others i d = acted e a asked fits i ∙ rw (ne_eqb i e d) (asked_holds i ∙ rw (ne_eqb i e d))

    pub one_more : Held ((e, a) ∷ es) entered
    unfolding entries
    one_more =
        record {
          valid = (e<n, (e<n, held.there, le_refl (length h), held.valid));
          holder = e;
          there = e<n;
          all = λ i l q p. by_cases (ℕ_discrete i e) (λ same. rw same at p)
              (λ d. rw entered_all (right (λ q. eqb q (length asked)) S q (held.all i l q (rw (entered_others i d) at p))));
          acts = rw (entered_all, entries_joined e a asked S) (ap (λ es. (e, a) ∷ es) held.acts);
        }

  -- the desks below k take desk j's copy of moment m
  round : (j m k : ℕ) → History R
  round j m zero = []
  round j m (suc k) = take k j m ∷ round j m k

  module _ {es : List (ℕ × R.Act)} {h : History R} (held : Held es h) where
    abbrev all_acts : Acts
    all_acts = latest R start h held.holder

    abbrev told : ℕ → History R
    told k = round held.holder (length h) k ++ h

    told_late : (k : ℕ) → length h ≤ length (told k)
    told_late k = simp length-append (omega arith)

    told_valid : (k : ℕ) → k ≤ n → Valid n (told k)
    unfolding round
    told_valid zero l = held.valid
    told_valid (suc k) l = (l, held.there, told_late k, told_valid k (omega arith))

    told_entries : (k : ℕ) (T : Acts) → entries (told k) T ≡ entries h T
    unfolding round entries
    told_entries zero T = refl
    told_entries (suc k) T = told_entries k T

    -- a desk that has taken the copy has all acts, and none has more
    told_holds : (k i : ℕ) → k ≤ n → i < n → (i < k → latest R start (told k) i ≡ all_acts) × (latest R start (told k) i ⊆ all_acts)
    unfolding round
    told_holds zero i l b = (λ x. absurd (omega arith), held.all i b)
    told_holds (suc k) i l b =
        let known : ledger R start (told k) (length h) held.holder ≡ all_acts = before R start (round held.holder (length h) k) h (length h) held.holder (le_refl _) in
        let now : latest R start (told (suc k)) i ≡ cond (eqb i k) all_acts (latest R start (told k) i)
        = took k held.holder (length h) (told k) (rw known (told_holds k k (omega arith) l).1) i ∙ rw known in
        by_cases (ℕ_discrete i k)
        (λ e. let has : latest R start (told (suc k)) i ≡ all_acts = now ∙ rw (eq-eqb i k e) in (λ _. has, rw has (λ q p. p)))
        (λ d. let ih = told_holds k i (omega arith) b in rw (now, ne_eqb i k d) (λ x. ih.0 (omega arith), ih.1))

    levelled : Level es (told n)
    levelled =
        record {
          valid = told_valid n (le_refl n);
          set = all_acts;
          all = λ i l. (told_holds n i (le_refl n) l).0 l;
          acts = told_entries n all_acts ∙ held.acts;
        }

  -- a history for each list of entered acts, after which one desk holds them all; and one after which every desk holds just them
  relayed : (d : ℕ) → d < n → (es : List (ℕ × R.Act)) → Entered R n start es → (h : History R) × Held es h
  unfolding entries ledger at
  relayed d d<n [] x = ([], record { valid = tt; holder = d; there = d<n; all = λ i l q p. p; acts = refl })
  relayed d d<n (x ∷ es) y =
      let (h, held) = relayed d d<n es y.2 in
      (entered held x.0 x.1 y.0 y.1, one_more held x.0 x.1 y.0 y.1)

  pub level : (d : ℕ) → d < n → (es : List (ℕ × R.Act)) → Entered R n start es → (h : History R) × Level es h
  level d d<n es x = let (h, held) = relayed d d<n es x in (told held n, levelled held)

module _ {R : Replica} {n : ℕ} {Within : R.State → Type 0} {start : R.State} (laws : Laws R n Within start) where
  -- every set of the ledger has a history after which all desks hold just that set
  pub every_set : (h : History R) → Valid n h → (m i : ℕ) → i < n → (g : History R) × Level R n start (entries h (ledger R start h m i)) g
  every_set h v m i l = level R n start i l _ (ran laws h v _ (ledger_sound R n start h v m i).good)
