-- `RecutterFrameWriter::write_frame`: clause `writes`.
use Rattle.std.proofs.Common.{inl, inr}
use Rattle.amqp_wire.specs.Frames.{raw_of}
use Rattle.amqp_recut.proofs.Stepping.{outside_passed, passing}
use Rattle.amqp_recut.proofs.recutter.RecutterFrameWriter.write_frame.Goals as goal

pub returns-in-ProtocolHeader-clause-writes : goal.returns-in-ProtocolHeader-clause-writes
returns-in-ProtocolHeader-clause-writes g c =
    rw c.as_run.ensures (passing _ _ _ _ _ _ c.write_canonical.result
    (outside_passed c.args.self.now (raw_of c.args.raw) (inl c.in-ProtocolHeader.is)) c.write_canonical.ensures.writes)

pub returns-in-Heartbeat-clause-writes : goal.returns-in-Heartbeat-clause-writes
returns-in-Heartbeat-clause-writes g c =
    rw c.as_run-in-Heartbeat.ensures (passing _ _ _ _ _ _ c.write_canonical-in-Heartbeat.result
    (outside_passed c.args.self.now (raw_of c.args.raw) (inr c.in-Heartbeat.is)) c.write_canonical-in-Heartbeat.ensures.writes)
