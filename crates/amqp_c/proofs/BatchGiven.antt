-- What is reported of frames is what was read of them.
use Rattle.std.proofs.Common.{ℕ, Bool, List, drop, Some, refl, arith}
use Rattle.std.proofs.lemmas.List.{length-drop, length-take, nil_from_length}
use Rattle.amqp_types.specs.Judging.{Judged}
use Rattle.amqp_types.specs.Levels.{plain}
use Rattle.amqp_types.specs.declared.errors.ParserError.{ParserError}
use Rattle.amqp_wire.specs.Frames.{Frame}
use Rattle.amqp_wire.specs.Verdicts.{judge_frame}
use Rattle.amqp_wire.proofs.HeaderScan.{scan-none}
use Rattle.amqp_fields.specs.declared.frames.FramesEnd.{FramesEnd}
use Rattle.amqp_fields.specs.declared.frames.FramesEnd.TheVariants as ends
use Rattle.amqp_fields.specs.declared.frames.FramesRead.{FramesRead}
use Rattle.amqp_fields.specs.declared.head.Head.{Head}
use Rattle.amqp_fields.specs.declared.node.Node.{Node}
use Rattle.amqp_fields.proofs.FramesGiven.{verdict_whole}
use Rattle.amqp_fields.specs.Frames.{EndsWith, ReadsFrames, SaysFault, in_reach}
use Rattle.amqp_c.specs.Batches.{AreFew, Follows, GivesFrames, batch_of, end_needed, end_status}

module _ {m : ℕ} {deep : Bool} {bytes : List ℕ} {heads : List Head} {nodes : List Node} {read : FramesRead}
    (h : ReadsFrames m deep bytes heads nodes read) where
  -- The frames and the fields that were read fit four bytes in number.
  pub frames_few : AreFew read
  frames_few = let size = length-take 4294967295 bytes in (omega (arith, size, h.within, h.few_heads), omega (arith, size, h.within, h.few_nodes))

  -- what follows them, as it is reported
  abbrev IsEnd : FramesEnd → Judged Frame → Type 0
  IsEnd end =
      Follows m deep bytes heads nodes
      (record { used = read.used; needed = end_needed end; heads = read.heads; nodes = read.nodes; status = end_status end; unused = 0 })

  fault_follows : (error : ParserError) (j : Judged Frame) → SaysFault error j → IsEnd (ends.Fault error) j
  fault_follows error j h = grind arith

  end_follows : (end : FramesEnd) → EndsWith m deep bytes heads nodes read end → IsEnd end (judge_frame plain (Some m) (drop read.used (in_reach bytes)))
  unfolding judge_frame
  end_follows ends.Done h =
      let nothing =
      nil_from_length (drop read.used (in_reach bytes)) (omega (arith, h, length-drop read.used (in_reach bytes), length-take 4294967295 bytes)) in
      rw (nothing, scan-none (Some m)) (λ all. (refl, refl), λ more. absurd (omega (arith, h, more)))
  end_follows (ends.Incomplete needed) h = rw h.1.0 (λ all. absurd (omega (arith, h.0, all)), λ more. (refl, h.1.1))
  end_follows ends.TooLarge h = rw h.1 (refl, refl)
  end_follows (ends.Fault error) h = fault_follows error (judge_frame plain (Some m) (drop read.used (in_reach bytes))) h.1
  end_follows (ends.Full needed) h = rw (verdict_whole m (drop read.used (in_reach bytes)) h.raw h.size h.frame h.found h.is) (record {
    raw = h.raw;
    found = h.found;
    is = h.is;
    follows = (refl, h.needed_is);
    few = h.few;
    no_room = h.no_room;
  })

  -- What is reported of frames is what was read, and how the reading ended.
  pub frames_given : EndsWith m deep bytes heads nodes read read.end → GivesFrames m deep bytes heads nodes (batch_of read)
  frames_given end = record {
    within = omega (arith, h.within, length-take 4294967295 bytes);
    heads_fit = h.heads_fit;
    nodes_fit = h.nodes_fit;
    frames = h.frames;
    few_heads = h.few_heads;
    few_nodes = h.few_nodes;
    follows = end_follows read.end end;
    unused = refl;
  }
