-- A frame and its line: what was read, and what is written of it.
use Rattle.std.proofs.Common.{[], arith, ◌≡◌, ℕ, List, ◌++◌, length, take, drop, Some, Err, sym, ◌∙◌}
use Rattle.std.proofs.lemmas.List.{length-take-le}
use Rattle.amqp_types.specs.Levels.{plain}
use Rattle.amqp_wire.specs.declared.looking.FrameLayout.{FrameLayout}
use Rattle.amqp_wire.specs.Canonical.{canon}
use Rattle.amqp_wire.specs.Frames.{Frame, Raw}
use Rattle.amqp_wire.specs.Looks.{laid_out}
use Rattle.amqp_wire.specs.HeaderScan.{scan}
use Rattle.amqp_stream.specs.declared.errors.StreamError.{StreamError}
use Rattle.amqp_stream.specs.Errors.{cause_of}
use Rattle.amqp_stream.specs.Reading.{Lies}
use Rattle.amqp_lines.specs.LineReading.{HasNoNewline, IsFirstLine}
use Rattle.amqp_lines.specs.LineTexts.{HasNoLine}
use Rattle.amqp_lines.specs.Lines.{line}
use Rattle.amqp_lines.specs.OneLine.{IsLineOf, IsStrictWithin}
use Rattle.amqp_lines.proofs.LinesApart.{same_frame}
use Rattle.amqp_lines.proofs.TextFronts.{first_line, holds_none, line_first}
use Rattle.amqp_c.specs.declared.lines.FrameLine.{FrameLine}
use Rattle.amqp_c.specs.FrameLines.{AppendsFront, Converts}
use Rattle.amqp_c.specs.Scans.{error_at}
use Rattle.amqp_c.proofs.Fronts.{error_as, unscanned}

-- ---- the line of the frame in front

-- Where no frame is in front of the bytes, the error says why.
pub no_front : (m : ℕ) (bytes : List ℕ) (error : StreamError) → error_at (scan (Some m) bytes) ≡ Some error → AppendsFront m bytes [] [] (Err error)
no_front m bytes error h = grind (arith, unscanned plain m bytes error h)

-- Where the frame in front has no line, the error says why.
pub no_line : {m : ℕ} {bytes : List ℕ} {raw : Raw} {layout : FrameLayout} (error : StreamError) → Lies m bytes layout
    → raw ≡ laid_out layout bytes → HasNoLine raw (cause_of error) → AppendsFront m bytes [] [] (Err error)
no_line error lies is h = grind (arith, error_as)

-- ---- the frame of the line in front

-- what is written for a first line is the canonical bytes of any frame whose line it is
pub undumped_front : {m : ℕ} {text canonical written old new : List ℕ} {end : ℕ} {frame : Frame} {result : FrameLine} (rest : List ℕ)
    → IsFirstLine text end → IsLineOf m (take end text) canonical → written ≡ canonical → IsStrictWithin m frame
    → text ≡ line frame ++ rest → Converts written end old new result → Converts (canon frame) (length (line frame)) old new result
undumped_front {text = text} {written = written} {end = end} {frame = frame} rest first of is strict e h =
    let begins = line_first frame first.front rest (drop end text) first.none_before (sym e ∙ first_line text end first) in
    let front : take end text ≡ line frame = first.parts ∙ sym begins.0 in
    let same : of.frame ≡ frame = same_frame of.frame frame of.strict_within.is_strict strict.is_strict (sym of.is_line ∙ front) in
    let bytes : written ≡ canon frame = cc (of.is_canonical) in
    rw (← bytes, ← front, length-take-le end text first.within) h

-- a first line ends with a newline
pub first_holds : {text : List ℕ} {end : ℕ} → IsFirstLine text end → HasNoNewline text → ⊥
first_holds {text = text} {end} first clean =
    holds_none text clean (record { front = first.front; back = drop end text; parts = first_line text end first })
