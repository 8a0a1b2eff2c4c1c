-- What a proof needs of a call that was refused: its number is not 0, and a `?` hands on just that refusal.
use Rattle.std.proofs.Common.{◌≡◌, ap, refl, Result, Ok, Err}
use Rattle.std.specs.Result.{IsErrAnd}
use Rattle.std.proofs.lemmas.Result.{err_from_is_err_and}
use Rattle.refusal.specs.declared.Refusal.{Refusal}
use Rattle.refusal.specs.declared.Refusal.TheVariants.{BookShort, HeadWrong, LengthWrong, ContentsWrong, OpeningUnlawful, TallyWrong, RightsNegative, BufferShort, PileAbsent, DeskAbsent, ReceiverWrong, AmountWrong, RightsShort, LimitReached, CopyShort, CopyHeadWrong, CopyLengthWrong, CopyContentsWrong, CopyOpeningUnlawful, CopyTallyWrong, CopyRightsNegative, OpeningDiffers, RowsSplit, OwnRowBehind, DigitsWrong, TicketPileWrong, KindOrDeskWrong, BridgeNotRising, DeskNotRising}
use Rattle.refusal.specs.Answers.{number_of, answered}

-- a refusal's number is not the number of what is done
pub number_is_not_0 : (refusal : Refusal) → number_of refusal ≡ 0 → ⊥
number_is_not_0 BookShort e = cc
number_is_not_0 HeadWrong e = cc
number_is_not_0 LengthWrong e = cc
number_is_not_0 ContentsWrong e = cc
number_is_not_0 OpeningUnlawful e = cc
number_is_not_0 TallyWrong e = cc
number_is_not_0 RightsNegative e = cc
number_is_not_0 BufferShort e = cc
number_is_not_0 PileAbsent e = cc
number_is_not_0 DeskAbsent e = cc
number_is_not_0 ReceiverWrong e = cc
number_is_not_0 AmountWrong e = cc
number_is_not_0 RightsShort e = cc
number_is_not_0 LimitReached e = cc
number_is_not_0 CopyShort e = cc
number_is_not_0 CopyHeadWrong e = cc
number_is_not_0 CopyLengthWrong e = cc
number_is_not_0 CopyContentsWrong e = cc
number_is_not_0 CopyOpeningUnlawful e = cc
number_is_not_0 CopyTallyWrong e = cc
number_is_not_0 CopyRightsNegative e = cc
number_is_not_0 OpeningDiffers e = cc
number_is_not_0 RowsSplit e = cc
number_is_not_0 OwnRowBehind e = cc
number_is_not_0 DigitsWrong e = cc
number_is_not_0 TicketPileWrong e = cc
number_is_not_0 KindOrDeskWrong e = cc
number_is_not_0 BridgeNotRising e = cc
number_is_not_0 DeskNotRising e = cc

-- a call that is answered 0 is done
pub done_of : {A : Type 0} (r : Result A Refusal) → answered r ≡ 0 → (x : A) × (r ≡ Ok x)
done_of (Ok x) e = (x, refl)
done_of (Err refusal) e = absurd (number_is_not_0 refusal e)

-- what a `?` hands on is answered as the call before it was
pub handed_on : {A : Type 0} (r : Result A Refusal) (refusal : Refusal) → IsErrAnd r (λ e. e ≡ refusal) → answered r ≡ number_of refusal
handed_on (Ok x) refusal h = absurd h
handed_on (Err e) refusal h = ap number_of h

-- what tells a `grind` of a refusal that a `?` handed on
pub ruleset refusals = (err_from_is_err_and, number_is_not_0)
