-- The numbers of the refusals, and what a call that may be refused answers.
-- Assumes nothing.
use Rattle.std.specs.Prelude.{ℕ, Result, Ok, Err}
use Rattle.refusal.specs.declared.Refusal.{Refusal}
use Rattle.refusal.specs.declared.Refusal.TheVariants.{BookShort, HeadWrong, LengthWrong, ContentsWrong, OpeningUnlawful, TallyWrong, RightsNegative, BufferShort, PileAbsent, DeskAbsent, ReceiverWrong, AmountWrong, RightsShort, LimitReached, CopyShort, CopyHeadWrong, CopyLengthWrong, CopyContentsWrong, CopyOpeningUnlawful, CopyTallyWrong, CopyRightsNegative, OpeningDiffers, RowsSplit, OwnRowBehind, DigitsWrong, TicketPileWrong, KindOrDeskWrong, BridgeNotRising, DeskNotRising}

abbrev pub number_of : Refusal → ℕ
number_of BookShort = 1
number_of HeadWrong = 2
number_of LengthWrong = 3
number_of ContentsWrong = 4
number_of OpeningUnlawful = 5
number_of TallyWrong = 6
number_of RightsNegative = 7
number_of BufferShort = 8
number_of PileAbsent = 10
number_of DeskAbsent = 11
number_of ReceiverWrong = 12
number_of AmountWrong = 13
number_of RightsShort = 14
number_of LimitReached = 15
number_of CopyShort = 21
number_of CopyHeadWrong = 22
number_of CopyLengthWrong = 23
number_of CopyContentsWrong = 24
number_of CopyOpeningUnlawful = 25
number_of CopyTallyWrong = 26
number_of CopyRightsNegative = 27
number_of OpeningDiffers = 30
number_of RowsSplit = 31
number_of OwnRowBehind = 32
number_of DigitsWrong = 33
number_of TicketPileWrong = 34
number_of KindOrDeskWrong = 35
number_of BridgeNotRising = 36
number_of DeskNotRising = 37

-- 0 where it is done, or the number of its refusal
abbrev pub answered : {A : Type 0} → Result A Refusal → ℕ
answered (Ok x) = 0
answered (Err refusal) = number_of refusal
