-- `written_is_no_longer`: what it ensures.
use Rattle.amqp_canonical.proofs.NoLonger.{values_no_longer, arrays_no_longer, tables_no_longer, slots_no_longer, payloads_no_longer, content_headers_no_longer}
use Rattle.amqp_canonical.proofs.writing_laws.written_is_no_longer.Goals as goal

pub returns : goal.returns
returns c = record {
  values = values_no_longer;
  arrays = arrays_no_longer;
  tables = tables_no_longer;
  slots = slots_no_longer;
  payloads = payloads_no_longer;
  headers = content_headers_no_longer;
}
