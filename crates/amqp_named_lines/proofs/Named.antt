-- Names in front of a line.
use Rattle.std.proofs.Common.{◌≡◌, ℕ, List, [], ◌++◌, length, Option, Some, None, Result, Ok, Err, refl, sym, ap, subst, ◌∙◌, append-nil}
use Rattle.std.specs.Prelude.{IsOk}
use Rattle.amqp_types.specs.Writing.{Appends}
use Rattle.amqp_types.specs.declared.errors.NoMemory.{NoMemory}
use Rattle.amqp_types.specs.declared.errors.GenError.{GenError}
use Rattle.amqp_types.specs.declared.errors.GenError.TheVariants as refusals
use Rattle.amqp_wire.specs.Frames.{Frame}
use Rattle.amqp_wire.specs.Canonical.{size_of}
use Rattle.amqp_wire.specs.Outlines.{outline_of}
use Rattle.amqp_wire.specs.declared.outline.FrameOutline.{FrameOutline}
use Rattle.amqp_names.specs.declared.naming.Class.{Class}
use Rattle.amqp_names.specs.declared.naming.Method.{Method}
use Rattle.amqp_names.specs.Naming.{ClassNames, MethodNames}
use Rattle.amqp_names.specs.Tables.{class_names_of, method_names}
use Rattle.amqp_lines.specs.Lines.{line}
use Rattle.amqp_lines.specs.LineTexts.{AppendsLine}
use Rattle.amqp_lines.specs.Rendering.{AppendsText}
use Rattle.amqp_named_lines.specs.NamedLines.{method_words, named_as, names_in, named_line, AppendsNamedLine}

-- ---- names

-- a method of the table
pub named : (old new : List ℕ) (r : Result (Unit {0}) NoMemory) (c : Class) (m : Method) {class : Option ClassNames} {method : Option MethodNames}
    → Some (class_names_of c) ≡ class → Some (method_names m) ≡ method
    → AppendsText old new (method_words (class_names_of c) (method_names m)) r → AppendsText old new (named_as class method) r
named old new r c m {class = class} {method = method} is-c is-m h =
    subst (λ x. AppendsText old new (named_as x method) r) is-c (subst (λ y. AppendsText old new (named_as (Some (class_names_of c)) y) r) is-m h)

-- a class that the table does not have, and a method that its class does not have
pub no_class : (old : List ℕ) {class : Option ClassNames} (method : Option MethodNames) → None ≡ class → old ≡ old ++ named_as class method
no_class old method none = subst (λ x. old ≡ old ++ named_as x method) none (sym (append-nil old))

-- Where a class of the table does not have the method, no names are appended.
pub no_method : (old : List ℕ) (c : Class) {class : Option ClassNames} {method : Option MethodNames}
    → Some (class_names_of c) ≡ class → None ≡ method → old ≡ old ++ named_as class method
no_method old c {method = method} is-c none =
    subst (λ x. old ≡ old ++ named_as x method) is-c (subst (λ y. old ≡ old ++ named_as (Some (class_names_of c)) y) none (sym (append-nil old)))

-- ---- lines

-- what is appended to nothing
pub alone : {first names bytes : List ℕ} → first ≡ [] → names ≡ first ++ bytes → names ≡ bytes
alone {bytes = bytes} none is = is ∙ ap (λ (xs : List ℕ). xs ++ bytes) none

-- The names in the outline of a frame and then its line, appended, are its named line.
pub finished : (old new text names : List ℕ) (outline : FrameOutline) (f : Frame) (r : Result (Unit {0}) GenError)
    → outline ≡ outline_of f → names ≡ names_in outline → IsOk (size_of f) → text ≡ names ++ line f
    → Appends old new (Ok (length text)) text r → AppendsNamedLine old new f r
finished old new text names outline f (Ok done) of is ok same h =
    (ok, h.1 ∙ ap (λ (xs : List ℕ). old ++ xs) (same ∙ ap (λ (xs : List ℕ). xs ++ line f) (is ∙ ap names_in of)))
finished old new text names outline f (Err refusals.NoMemory) of is ok same h = h
finished old new text names outline f (Err refusals.TooDeep) of is ok same h = absurd (let e = h.0 in cc)
finished old new text names outline f (Err refusals.TooLong) of is ok same h = absurd (let e = h.0 in cc)
finished old new text names outline f (Err refusals.BufferTooSmall) of is ok same h = absurd (let e = h.0 in cc)

-- An error in appending the line of a frame is the error of its named line, of which then nothing is appended.
pub refused : (old before after : List ℕ) (f : Frame) (error : GenError) → AppendsLine before after f (Err error) → AppendsNamedLine old old f (Err error)
refused old before after f refusals.NoMemory h = refl
refused old before after f refusals.TooDeep h = (h.0, refl)
refused old before after f refusals.TooLong h = (h.0, refl)
refused old before after f refusals.BufferTooSmall h = (h.0, refl)
