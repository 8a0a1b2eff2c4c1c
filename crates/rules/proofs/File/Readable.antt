-- A book is readable exactly where these plain facts hold of its bytes; so it is what writing its parts gives, and has 42 to 20,932 bytes.
-- Assumes nothing.
use Prim.Native.Nat.{ℕ, ◌≤◌, ◌<◌}
use native.Mathlib.Omega.{arith}
use mathlib.Core.Path.{◌≡◌, refl, ap, ap₂, sym, ◌∙◌}
use mathlib.Core.Bool.{true}
use mathlib.Core.List.{List}
use lib.ListN.{length}
use lib.Dec.{lit≤}
use borrow.Author.Tests.{ltb-false, eqb-true, le-leb, le-ltb, eq-eqb}
use Rattle.rules.specs.Loops.{between}
use Rattle.rules.specs.Refusals.{◌when◌, ◌or_else◌}
use Rattle.rules.specs.Pile.{pile_answer}
use Rattle.rules.specs.Layout.{sizes_in_range, Sizes, Head, head_of, head_for, body_at, book_length, desks, piles, pile_number, position, pile_of, book_bytes}
use Rattle.rules.specs.Opening.{rising}
use Rattle.rules.specs.Book.{head_sound, contents_sound, book_answer}
use Rattle.rules.proofs.Loops.Logic.{in_range, and_left, and_right, and_both}
use Rattle.rules.proofs.Loops.Every.{every_at, every_all}
use Rattle.rules.proofs.Loops.Refusals.{when_most, or_else_most, first_most, when_done, when_not_done, or_else_first, or_else_rest, first_at, first_none}
use Rattle.rules.proofs.Bytes.Numbers.{Octets}
use Rattle.rules.proofs.Pile.Agree.{agree_refl}
use Rattle.rules.proofs.File.Positions.{lengths}
use Rattle.rules.proofs.File.Written.{write_book}

pub sizes_range : (n p : ℕ) → sizes_in_range n p ≡ true → Sizes n p
unfolding sizes_in_range
sizes_range n p e =
    let desks = in_range _ _ _ (and_left _ _ e) in
    let piles = in_range _ _ _ (and_right _ _ e) in
    record { desks_least = desks.0; desks_most = desks.1; piles_least = piles.0; piles_most = piles.1 }

pub sizes_pass : (n p : ℕ) → Sizes n p → sizes_in_range n p ≡ true
unfolding sizes_in_range between
sizes_pass n p s =
    and_both (and_both (le-leb _ _ s.desks_least) (le-leb _ _ s.desks_most)) (and_both (le-leb _ _ s.piles_least) (le-leb _ _ s.piles_most))

pub record BookFacts (b : List ℕ) : Type 0 where
  pub long : 4 ≤ length b
  pub version : (head_of b).version ≡ 1
  pub fourth : (head_of b).fourth ≡ 0
  pub sizes : Sizes (desks b) (piles b)
  pub sized : length b ≡ book_length (head_of b)
  pub rises : rising (piles b) (pile_number b) ≡ true
  pub placed : (k : ℕ) → k < piles b → position b k ≡ body_at (head_of b) k
  pub bodies : (k : ℕ) → k < piles b → pile_answer (desks b) (pile_of b k) ≡ 0

pub book_facts : (b : List ℕ) → book_answer b ≡ 0 → BookFacts b
unfolding book_answer head_sound contents_sound
book_facts b e =
    let head : head_sound (head_of b) ≡ true = when_not_done _ _ (or_else_first _ _ (or_else_rest _ _ e)) in
    let rest = or_else_rest _ _ (or_else_rest _ _ e) in
    let contents : contents_sound (head_of b) b ≡ true = when_not_done _ _ (or_else_first _ _ (or_else_rest _ _ rest)) in
    record {
      long = ltb-false _ _ (when_done _ _ (or_else_first _ _ e));
      version = eqb-true _ _ (and_left _ _ head);
      fourth = eqb-true _ _ (and_right _ _ (and_right _ _ head));
      sizes = sizes_range _ _ (and_left _ _ (and_right _ _ head));
      sized = eqb-true _ _ (when_not_done _ _ (or_else_first _ _ rest));
      rises = and_left _ _ contents;
      placed = λ k l. eqb-true _ _ (every_at (piles b) _ (and_right _ _ contents) k l);
      bodies = first_at (piles b) _ (or_else_rest _ _ (or_else_rest _ _ rest));
    }

pub book_passes : (b : List ℕ) → BookFacts b → book_answer b ≡ 0
unfolding book_answer head_sound contents_sound ◌when◌ ◌or_else◌
book_passes b f =
    rw (
      le-ltb _ _ f.long,
      and_both (eq-eqb _ _ f.version)
          (and_both (sizes_pass _ _ f.sizes) (eq-eqb _ _ f.fourth)),
      eq-eqb _ _ f.sized,
      and_both f.rises (every_all (piles b) (λ k l. eq-eqb _ _ (f.placed k l))),
      first_none (piles b) f.bodies,
    )

-- the head of a readable book
pub head_read : (b : List ℕ) → BookFacts b → head_of b ≡ head_for (desks b) (piles b)
head_read b f = ap₂ (λ (v z : ℕ). record { version = v; desks = desks b; piles = piles b; fourth = z }) f.version f.fourth

-- a readable book is what writing its parts gives
pub rewritten : (b : List ℕ) → Octets b → book_answer b ≡ 0 → book_bytes (desks b) (piles b) (pile_number b) (pile_of b) ≡ b
unfolding pile_of
rewritten b o e =
    let f = book_facts b e in
    let same = head_read b f in
    write_book (desks b) (piles b) (pile_number b) (pile_of b) b o (f.sized ∙ ap book_length same) same (λ k l. refl)
    (λ k l. f.placed k l ∙ ap (λ (h : Head). body_at h k) same)
    (λ k l. rw (sym same) agree_refl)

pub book_lengths : (b : List ℕ) → book_answer b ≡ 0 → (42 ≤ length b) × (length b ≤ 20932)
book_lengths b e =
    let f = book_facts b e in
    let sized = f.sized ∙ ap book_length (head_read b f) in
    let l = lengths (desks b) (piles b) f.sizes in
    (omega (arith, sized, l.0), omega (arith, sized, l.1))

-- a book's own refusals are 1 to 7
pub book_answer_most : (b : List ℕ) → book_answer b ≤ 7
unfolding book_answer pile_answer
book_answer_most b =
    or_else_most _ _ (when_most 1 (lit≤ tt) _)
    (or_else_most _ _ (when_most 2 (lit≤ tt) _)
    (or_else_most _ _ (when_most 3 (lit≤ tt) _)
    (or_else_most _ _ (when_most 4 (lit≤ tt) _)
    (first_most (piles b) _ (λ k. or_else_most _ _ (when_most 5 (lit≤ tt) _)
    (or_else_most _ _ (when_most 6 (lit≤ tt) _) (when_most 7 (lit≤ tt) _)))))))
