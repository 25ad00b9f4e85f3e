-- `put_ends`: what is put by both ends.
use Rattle.std.proofs.Common.{rules, refl, subst, ◌∙◌, ◌-◌, ◌+◌, ℕ, List, length}
use Rattle.std.proofs.lemmas.List.{take_rest}
use Rattle.amqp_types.specs.Writing.{Puts}
use Rattle.amqp_canonical.proofs.Ends.{ends}
use Rattle.amqp_canonical.proofs.few.put_ends.Goals as goal

pub returns : goal.returns
returns g c =
    let bytes = c.args.bytes.now in
    let back = (c.args.at + length bytes) - g.row.N in
    let P : List ℕ → Type 0 = λ last. Puts c.put_bytes.new.buf c.put_bytes-2.new.buf back last c.put_bytes-2.result in
    ends c.args.buf.now c.put_bytes.new.buf c.put_bytes-2.new.buf bytes c.args.at g.row.N c.put_bytes.result c.put_bytes-2.result back c.requires.many
    c.requires.few c.requires.room refl
    (search rules) (subst P (c.copy_from_slice-2.ensures.after ∙ take_rest bytes (length bytes - g.row.N)) c.put_bytes-2.ensures)
