-- `read` tells that the tonnes are out of range where nothing before them is wrong.
use native.Mathlib.Omega.{arith}
use mathlib.Core.Path.{◌≡◌}
use lib.ListN.{length}
use Rattle.std.proofs.Common.{rules}
use Rattle.refusal.proofs.Refused.{refusals}
use Rattle.ticket.proofs.Opened.{open_reading}
use Rattle.ticket.proofs.Digits.{number_right, number_lent, pile_right, pile_lent, tonnes_right, tonnes_lent}
use Rattle.ticket.proofs.Ticket.read.Goals as goal

pub returns-in_err-tonnes : goal.returns-in_err-tonnes
unfolding open_reading
returns-in_err-tonnes c =
    let b = c.args.bytes.now in
    let eleven : length b ≡ 11 = omega arith in
    search (rules, refusals, number_right b eleven, number_lent b eleven, pile_right b eleven, pile_lent b eleven, tonnes_right b eleven, tonnes_lent b eleven)
