-- `feksroum_put_content_header`: headers that are not set make no difference.
use Rattle.std.proofs.Common.{[], None, sym, ◌∙◌}
use Rattle.amqp_types.specs.Slots.{entries_item}
use Rattle.amqp_c_put.specs.Headers.{headers_flaw, headers_item}
use Rattle.amqp_c_put.proofs.HeadersMasked.{without_headers}
use Rattle.amqp_c_put.proofs.frames.feksroum_put_content_header.Goals as goal

pub returns-clause-put : goal.returns-clause-put
returns-clause-put c second lowest =
    let p = c.args.properties.now in
    record {
      result = c.put_masked_header-put.result;
      returned = without_headers p (entries_item []) (headers_item p) None (headers_flaw p) c.args.out.now c.put_masked_header-put.new.out c.args.max_payload
          c.args.channel _ c.args.body_size c.put_masked_header-put.result
          (sym c.has_bit.ensures ∙ c.if-has_bit.false) c.put_masked_header-put.ensures;
      report_is = c.report.ensures;
    }
