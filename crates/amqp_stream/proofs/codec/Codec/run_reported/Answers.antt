-- `Codec::run_reported`: clause `run`.
use Rattle.amqp_stream.proofs
use proofs.Names.{ap, refl}
use proofs.Reporting.{one_run, reports}
use proofs.codec.Codec.run_reported.Goals as goal

pub returns-clause-run : goal.returns-clause-run
returns-clause-run g c =
    let none = ap (λ h. h.held) c.clear.ensures in
    let limit = rw (c.clear.ensures, c.self.view_is) at c.run_with-ended.ensures.limit in (
      rw c.reported.ensures.error (one_run refl (rw (c.clear.ensures, c.self.view_is) at c.run_with-ended.ensures.stream) c.run_with-ended.ensures.unread
          (c.run_with-ended.ensures.unwritten none) (c.run_with-ended.ensures.spent none)),
      reports c.reported.result c.reported.ensures.error refl refl (rw (c.clear.ensures, c.self.view_is) at c.run_with-ended.ensures.stream)
          (rw limit at c.reported.ensures.few) c.reported.ensures.place c.reported.ensures.channel,
    )
