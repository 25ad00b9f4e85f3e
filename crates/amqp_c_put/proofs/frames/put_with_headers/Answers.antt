-- `put_with_headers`: the table is what the content was judged to be.
use Rattle.std.proofs.Common.{ℕ, List, subst}
use Rattle.amqp_types.specs.Constants.{inner_depth}
use Rattle.amqp_types.specs.Slots.{entries_item}
use Rattle.amqp_wire.specs.Frames.{Head}
use Rattle.amqp_entries.specs.Contents.{table_flaw, table_in}
use Rattle.amqp_put.specs.Headers.{header_with, masked_flaw, masked_options}
use Rattle.amqp_put.specs.MadeFrames.{MakesFrame}
use Rattle.amqp_c_put.specs.declared.frames.TheConstants.{CLASS_BASIC}
use Rattle.amqp_c_put.proofs.frames.put_with_headers.Goals as goal

pub returns : goal.returns
returns c =
    let p = c.args.properties.now in
    let P : List ℕ → Type 0 = λ content. MakesFrame c.args.out.now c.put_masked_header-put.new.out c.args.max_payload
    (Head c.args.channel (header_with CLASS_BASIC c.args.body_size (masked_options p (entries_item (table_in inner_depth content)))))
    (masked_flaw p (table_flaw inner_depth content)) c.put_masked_header-put.result in
    record {
      result = c.put_masked_header-put.result;
      returned = subst P c.new-headers.ensures c.put_masked_header-put.ensures;
      report_is = c.report.ensures;
    }
