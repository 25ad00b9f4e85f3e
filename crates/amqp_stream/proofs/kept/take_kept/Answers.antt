-- `take_kept`: clause `gathers`.
use Rattle.amqp_stream.proofs
use proofs.Names.{◌≡◌, ◌++◌, length, take, drop, sym, ap, ◌∙◌, arith, take-append-drop, take_rest, raw_of}
use proofs.Standing.{kept_in_place, kept_pending}
use proofs.kept.take_kept.Goals.{then-stretch-gt0-2, else-stretch-gt0-2}
use proofs.kept.take_kept.Goals as goal

pub returns-then-bytes-pending-clause-gathers : goal.returns-then-bytes-pending-clause-gathers
returns-then-bytes-pending-clause-gathers c =
    let pending = length c.bytes-pending.result.now in
    let seen = c.bytes-then-bytes-pending.result.now in
    kept_in_place (raw_of c.frame_after-raw.result) c.requires.lies c.frame_after-raw.ensures.frame c.push_judged.ensures.adds
    (ap length c.bytes-pending.ensures) c.requires.within (omega (arith, ap length c.bytes.ensures))
    (take_rest seen pending ∙ ap (drop pending) c.bytes-then-bytes-pending.ensures)
    c.replace.ensures.held c.truncate.ensures.bytes c.with.ensures

pub returns-clause-gathers : goal.returns-clause-gathers
returns-clause-gathers c =
    let pending = length c.bytes-pending.result.now in
    let middle = c.push_judged.new.self.bytes in
    let passed = c.args.stretch.len in
    let held = c.args.reader.now.held in
    let all : c.if-stretch-gt0-2.out.bytes ≡ take pending middle ++ (take passed held ++ drop pending middle) = elim c.if-stretch-gt0-2.branch [
      | then-stretch-gt0-2 w ↦
          rw (w.out-is, w.insert.ensures.inserted, w.front.ensures)
      | else-stretch-gt0-2 w ↦
          ap (λ o. o.bytes) w.out-is ∙ sym (take-append-drop pending middle)
          ∙ ap (λ k. take pending middle ++ (take k held ++ drop pending middle)) {x = 0} {y = passed} (omega arith)
    ] in
    kept_pending (raw_of c.frame_after-raw.result) c.requires.lies c.frame_after-raw.ensures.frame c.push_judged.ensures.adds
    (ap length c.bytes-pending.ensures) c.push_judged.ensures.compact all c.skip.ensures.held c.empty.ensures
