-- The line of a frame, with the names of its method and of the method's fields in front.
use Rattle.std.specs.Prelude.{◌≡◌, ℕ, List, [], ◌++◌, codes, Option}
use Rattle.std.specs.Prelude.{Some, None, Result, Ok, Err, IsOk}
use Rattle.std.specs.List.{flat_map}
use Rattle.amqp_types.specs.declared.errors.GenError.{GenError}
use Rattle.amqp_types.specs.declared.errors.GenError.TheVariants as refusals
use Rattle.amqp_wire.specs.declared.outline.FrameOutline.{FrameOutline}
use Rattle.amqp_wire.specs.declared.outline.FrameOutline.TheVariants as outlines
use Rattle.amqp_wire.specs.Frames.{Frame}
use Rattle.amqp_wire.specs.Canonical.{size_of}
use Rattle.amqp_wire.specs.Outlines.{outline_of}
use Rattle.amqp_lines.specs.Lines.{line}
use Rattle.amqp_names.specs.Naming.{ClassNames, MethodNames}
use Rattle.amqp_names.specs.Tables.{class_at, method_in}

-- the names of fields, each after a space
abbrev pub field_words : List (List ℕ) → List ℕ
field_words names = flat_map (λ name. codes " " ++ name) names

-- the name of a class and of a method, those of its fields, and a colon and a space
abbrev pub method_words : ClassNames → MethodNames → List ℕ
method_words class method =
    class.name ++ (codes "." ++ (method.name ++ (field_words method.fields ++ codes ": ")))

-- the same of what a table has; where it has none, nothing
abbrev pub named_as : Option ClassNames → Option MethodNames → List ℕ
named_as (Some class) (Some method) = method_words class method
named_as class method = []

-- what stands in front of the line of a frame with this outline: of a method its names
abbrev pub names_in : FrameOutline → List ℕ
names_in (outlines.Method channel class id) = named_as (class_at class) (method_in class id)
names_in outline = []

-- the names, and the line, which ends with the one newline
abbrev pub named_line : Frame → List ℕ
named_line frame = names_in (outline_of frame) ++ line frame

-- The named line of a frame that has a size is appended. A refusal is that of measuring the frame,
-- or memory, and leaves the vector as it was.
abbrev pub AppendsNamedLine : List ℕ → List ℕ → Frame → Result (Unit {0}) GenError → Type 0
AppendsNamedLine old new frame (Ok done) = IsOk (size_of frame) × (new ≡ old ++ named_line frame)
AppendsNamedLine old new frame (Err refusals.NoMemory) = new ≡ old
AppendsNamedLine old new frame (Err error) = (size_of frame ≡ Err error) × (new ≡ old)
