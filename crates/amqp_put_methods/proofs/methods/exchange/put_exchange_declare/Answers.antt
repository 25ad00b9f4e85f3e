-- `put_exchange_declare`: the table is what the content was judged to be.
use Rattle.std.proofs.Common.{◌∷◌, [], List, ℕ, subst}
use Rattle.amqp_types.specs.Constants.{inner_depth}
use Rattle.amqp_types.specs.Methods.{method}
use Rattle.amqp_types.specs.Slots.{entries_item, flag_item, text_item}
use Rattle.amqp_entries.specs.Contents.{table_flaw, table_in}
use Rattle.amqp_entries.specs.Flaws.{text_flaw}
use Rattle.amqp_put.specs.Flaws.{first_flaw}
use Rattle.amqp_put.specs.Made.{MakesMethod}
use Rattle.amqp_put_methods.proofs.methods.exchange.put_exchange_declare.Goals as goal

pub returns : goal.returns
returns c =
    let P : List ℕ → Type 0 = λ content. MakesMethod c.args.out.now c.put_method_frame.new.out c.args.channel c.args.max_payload
    (method 40 10 (text_item c.args.exchange.now ∷ text_item c.args.kind.now ∷ flag_item c.args.passive ∷ flag_item c.args.durable
    ∷ flag_item c.args.auto_delete ∷ flag_item c.args.internal ∷ flag_item c.args.nowait ∷ entries_item (table_in inner_depth content) ∷ []))
    (first_flaw (text_flaw c.args.exchange.now ∷ text_flaw c.args.kind.now ∷ table_flaw inner_depth content ∷ [])) c.put_method_frame.result in
    subst P c.new.ensures c.put_method_frame.ensures
