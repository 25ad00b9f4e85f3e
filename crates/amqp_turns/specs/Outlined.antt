-- Outcomes of frames, as those of their outlines.
use Rattle.std.specs.Prelude.{ℕ, List, map}
use Rattle.amqp_wire.specs.declared.outline.FrameOutline.{FrameOutline}
use Rattle.amqp_turns.specs.Units.{Begun, Nothing, Opened, Headed}
use Rattle.amqp_turns.specs.Answers.{Answer, Alone, Within, Ends, Wrong, Answers}
use Rattle.amqp_turns.specs.Marks.{itself}

module _ {X : Type 0} (outline : X → FrameOutline) where
  -- the outlines of a begun unit
  abbrev pub outlined_begun : Begun X → Begun FrameOutline
  outlined_begun Nothing = Nothing
  outlined_begun (Opened opening) = Opened (outline opening)
  outlined_begun (Headed opening header bodies) =
      Headed (outline opening) (outline header) (map outline bodies)

  -- an outcome with the outlines in the place of the frames
  abbrev pub outlined : Answer X → Answer FrameOutline
  outlined (Alone x) = Alone (outline x)
  outlined (Within begun x) = Within (outlined_begun begun) (outline x)
  outlined (Ends begun x) = Ends (outlined_begun begun) (outline x)
  outlined (Wrong fault) = Wrong fault

  -- The outcomes of frames are those of their outlines.
  abbrev pub OutlinesAnswerAlike : Type 0
  OutlinesAnswerAlike =
      (max : ℕ) (xs : List X) (answers : List (Answer X))
      → Answers outline max xs answers
      → Answers itself max (map outline xs) (map outlined answers)
