-- `write_canonical`: clause `writes`.
use Rattle.amqp_stream.proofs
use proofs.Names.{Ok, Err, ap, refl, raw_of}
use proofs.Writes.{added_refused, refused_by, wrote-body, wrote-beat, wrote-proto, pushed}
use proofs.output.write_canonical.Goals as goal

pub returns-in-Ok-clause-writes : goal.returns-in-Ok-clause-writes
returns-in-Ok-clause-writes g c =
    wrote-proto (raw_of c.args.raw) _ _ _ _ c.in-Ok.version c.in-ProtocolHeader.is
    (c.in-Ok.ensures.whole c.args.raw.channel_id) c.header_bytes.ensures c.push.ensures.pushed

pub returns-in-Err-clause-writes : goal.returns-in-Err-clause-writes
returns-in-Err-clause-writes g c =
    rw c.payload_error.ensures (added_refused (raw_of c.args.raw) _ _ _ c.in-Err.error c.in-Err.ensures.inside
    (λ e. c.in-Err.ensures.memory (ap (λ x. Err x) (refused_by e))) (rw c.in-ProtocolHeader.is (c.in-Err.ensures.whole c.args.raw.channel_id)) refl)

pub returns-in-Method-clause-writes : goal.returns-in-Method-clause-writes
returns-in-Method-clause-writes g c = c.write_typed.ensures.writes _

pub returns-in-Header-clause-writes : goal.returns-in-Header-clause-writes
returns-in-Header-clause-writes g c = c.write_typed-in-Header.ensures.writes _

pub returns-in-Body-clause-writes : goal.returns-in-Body-clause-writes
returns-in-Body-clause-writes g c = wrote-body (raw_of c.args.raw) _ _ _ _ (Ok tt) c.in-Body.is (pushed _ _ _ _ tt c.push_body.ensures.pushed)

pub returns-in-Body-2-clause-writes : goal.returns-in-Body-2-clause-writes
returns-in-Body-2-clause-writes g c = rw c.as_stream.ensures (wrote-body (raw_of c.args.raw) _ _ _ _ _ c.in-Body-2.is c.write_body.ensures.gathers)

pub returns-in-Heartbeat-clause-writes : goal.returns-in-Heartbeat-clause-writes
returns-in-Heartbeat-clause-writes g c = wrote-beat (raw_of c.args.raw) _ _ _ _ c.in-Heartbeat.is c.heartbeat_bytes.ensures c.push-in-Heartbeat.ensures.pushed
