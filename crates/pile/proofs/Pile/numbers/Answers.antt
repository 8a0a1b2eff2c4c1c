-- `numbers` sets n, floor and top, and copies the shares and the tallies, each behind the run before it.
use Rattle.std.proofs.Common.{rules}
use Rattle.pile.specs.View.{as_record}
use Rattle.pile.proofs.RecordNumbers.{runs_listed}
use Rattle.pile.proofs.Pile.numbers.Goals as goal

pub returns : goal.returns
returns c = runs_listed (as_record c.args.self) (search rules) (search rules) c.from.ensures c.copy_from_slice.ensures.after c.copy_from_slice-2.ensures.after
