-- What filling the contents leaves: the lent list as it came where it is refused, and else all the contents in it. A book that is not refused has its head, so
-- as many piles are read as it has.
use Rattle.std.proofs.Common.{◌≡◌, ℕ, List, length, ap, sym, ◌∙◌}
use Rattle.rules.specs.Layout.{Head, piles, pile_number, position}
use Rattle.rules.specs.Book.{book_answer, contents_answer, after_contents}
use Rattle.rules.proofs.Loops.Refusals.{when_accepted, when_refused}
use Rattle.rules.proofs.Loops.Partly.{partly}
use Rattle.rules.proofs.File.Readable.{book_facts}
use Rattle.layout.specs.Positions.{head_in}
use Rattle.layout.proofs.Positions.{head_there}
use Rattle.refusal.specs.declared.Refusal.{Refusal}
use Rattle.refusal.specs.Answers.{number_of}
use Rattle.refusal.proofs.Refused.{number_is_not_0}
use Rattle.lent.specs.Entries.{entry_of}
use Rattle.lent.specs.declared.entries.Entry.{Entry}

pub none_filled : (refusal : Refusal) (b : List ℕ) (entries : List Entry) → number_of refusal ≡ contents_answer b (length entries) → entries ≡ after_contents entry_of b entries
unfolding after_contents
none_filled refusal b entries e = sym (when_refused _ _ _ (λ z. number_is_not_0 refusal (e ∙ z)))

-- line k of the contents, as it is filled in
abbrev pub line : List ℕ → ℕ → Entry
line book k = entry_of (pile_number book k) (position book k)

pub all_filled : (b : List ℕ) (entries : List Entry) → 0 ≡ contents_answer b (length entries) → partly (line b) entries (piles b) ≡ after_contents entry_of b entries
unfolding after_contents
all_filled b entries e = sym (when_accepted _ _ _ (sym e))

pub piles_read : (b : List ℕ) → book_answer b ≡ 0 → (head_in b).piles ≡ piles b
piles_read b e = ap (λ (h : Head). h.piles) (head_there b (book_facts b e).long)
