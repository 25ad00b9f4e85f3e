-- Results of the calls from C are equal exactly where contracts see the same.
use Rattle.std.proofs.Common.{◌≡◌, rules}
use Rattle.std.specs.Bool.{Decides}
use Rattle.amqp_c.specs.declared.next.FrontFrame.{FrontFrame}
use Rattle.amqp_c.specs.contracts.next.FrontFramePartialEq.TheImpl as front
use Rattle.amqp_c.specs.declared.check.PayloadSummary.{PayloadSummary}
use Rattle.amqp_c.specs.contracts.check.PayloadSummaryPartialEq.TheImpl as summary
use Rattle.amqp_c.specs.declared.canonicalize.CallProgress.{CallProgress}
use Rattle.amqp_c.specs.contracts.canonicalize.CallProgressPartialEq.TheImpl as progress
use Rattle.amqp_c.specs.declared.lines.FrameLine.{FrameLine}
use Rattle.amqp_c.specs.contracts.lines.FrameLinePartialEq.TheImpl as line
use Rattle.amqp_c.specs.declared.statuses.CallError.{CallError}
use Rattle.amqp_c.specs.contracts.statuses.CallErrorPartialEq.TheImpl as error

-- The test of equal front frames is true exactly where contracts see the same.
pub same_front : (a b : FrontFrame) → Decides (front.ghosts.eq a b) (a ≡ b)
same_front a b = search rules

-- The test of equal payload summaries is true exactly where contracts see the same.
pub same_summary : (a b : PayloadSummary) → Decides (summary.ghosts.eq a b) (a ≡ b)
same_summary a b = search rules

-- The test of equal progress of a call is true exactly where contracts see the same.
pub same_progress : (a b : CallProgress) → Decides (progress.ghosts.eq a b) (a ≡ b)
same_progress a b = search rules

-- The test of equal frame lines is true exactly where contracts see the same.
pub same_line : (a b : FrameLine) → Decides (line.ghosts.eq a b) (a ≡ b)
same_line a b = search rules

-- The test of equal call errors is true exactly where contracts see the same.
pub same_error : (a b : CallError) → Decides (error.ghosts.eq a b) (a ≡ b)
same_error a b = search rules
