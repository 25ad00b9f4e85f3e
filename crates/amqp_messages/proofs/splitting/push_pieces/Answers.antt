-- `push_pieces`: what it ensures and what loops keep.
use Rattle.std.proofs.Common.{◌≡◌, ◌≤◌, ◌-◌, ◌++◌, drop, rules, ap, ◌∙◌, map, length, take, min, arith}
use Rattle.std.proofs.lemmas.List.{map_push, take_rest}
use Rattle.std.proofs.lemmas.Bool.Decides.{nat_tests}
use Rattle.amqp_frame.specs.Frames.{Body, frame_of}
use Rattle.amqp_messages.specs.Splits.{pieces}
use Rattle.amqp_turns.proofs.Pieces.{pieces-taken, pieces-over}
use Rattle.amqp_messages.proofs.splitting.push_pieces.Goals as goal

pub loop-rest-preserved : goal.loop-rest-preserved
loop-rest-preserved c =
    let rest = c.loop-rest.rest.now in
    let n = c.min-n.result in
    let some : 1 ≤ length rest = grind (arith, nat_tests) in
    let least : n ≡ min (length rest) c.args.max_payload = search rules in
    let piece : c.in_ok-new.field-0 ≡ take n rest = c.in_ok-new.ensures ∙ grind arith in
    ap (λ is. map frame_of is ++ map (λ p. Body c.args.channel_id p) (pieces c.args.max_payload (take (length rest - n) (drop n rest))))
    c.in_ok-push.ensures.items
    ∙ ap (λ fs. fs ++ map (λ p. Body c.args.channel_id p) (pieces c.args.max_payload (take (length rest - n) (drop n rest))))
    (map_push frame_of c.loop-rest.frames.items _)
    ∙ pieces-taken (λ p. Body c.args.channel_id p) c.args.max_payload n (map frame_of c.loop-rest.frames.items) rest c.in_ok-new.field-0
    (take (length rest - n) (drop n rest)) c.requires some least piece (take_rest rest n)
    ∙ c.loop-rest.invariant

pub returns : goal.returns
returns c =
    let none : length c.loop-rest.rest.now ≡ 0 = grind (arith, nat_tests) in
    pieces-over (λ p. Body c.args.channel_id p) c.args.max_payload
    (map frame_of c.loop-rest.frames.items) _ c.loop-rest.rest.now c.requires none c.loop-rest.invariant
