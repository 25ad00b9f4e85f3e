-- The constants of reserved fields: they are least, and are written as their bytes.
use Rattle.std.proofs.Common.{Bor, ap, ◌∙◌, ◌≡◌, ◌<◌, ℕ, zero, suc, true, List, [], ◌∷◌, length, get_or, refl, sym, arith}
use Rattle.std.proofs.lemmas.Bool.{and_from}
use Rattle.std.specs.Cmp.Lexicographic.{told_text}
use Rattle.std.specs.Int.{from_be_bytes}
use Rattle.amqp_types.specs.Numbers.{bytes2, width_of}
use Rattle.amqp_types.specs.Slots.{number_form}
use Rattle.amqp_types.specs.Slots as meant
use Rattle.amqp_types.proofs.Numbers.{number_bytes-length}
use Rattle.amqp_types.specs.SlotBytes.{form_bytes}
use Rattle.amqp_types.specs.SlotLaws.{is_least, are_least}
use Rattle.amqp_laws.proofs.SlotLaws.{both_true}
use Rattle.amqp_canonical.specs.declared.shapes.Form.{Form}
use Rattle.amqp_canonical.specs.declared.shapes.Form.TheVariants as forms
use Rattle.amqp_canonical.specs.declared.shapes.Slot.{Slot}
use Rattle.amqp_canonical.specs.declared.shapes.Slot.TheVariants as slots
use Rattle.amqp_canonical.specs.Shapes.{form_of, is_constant, constant_of, has_constant, slots_of, have_constants}

-- What the bytes of a constant give is a shortest item of its form.
pub constant_least : (form : meant.Form) (bytes : List ℕ) → is_constant form bytes ≡ true → is_least form (constant_of form bytes) ≡ true
constant_least form bytes h = (both_true (is_least form (constant_of form bytes)) _ h).0

-- The bytes of a constant are the canonical bytes of what they give.
pub constant_put : (form : meant.Form) (bytes : List ℕ) → is_constant form bytes ≡ true → form_bytes form (constant_of form bytes) ≡ bytes
constant_put form bytes h =
    told_text (form_bytes form (constant_of form bytes)) bytes true (sym (both_true (is_least form (constant_of form bytes)) _ h).1)

-- each shape of such a list has its constant
pub constant_at : (shapes : List Slot) (k : ℕ) (other : Slot) → have_constants shapes ≡ true → k < length shapes → has_constant (get_or shapes k other) ≡ true
constant_at [] k other h less = absurd (omega (arith, less))
constant_at (shape ∷ shapes) zero other h less = (both_true (has_constant shape) (have_constants shapes) h).0
constant_at (shape ∷ shapes) (suc k) other h less =
    constant_at shapes k other (both_true (has_constant shape) (have_constants shapes) h).1 (omega (arith, less))

-- so the fields of such shapes have least constants
pub slots_least : (shapes : List Slot) → have_constants shapes ≡ true → are_least (slots_of shapes) ≡ true
slots_least [] h = refl
slots_least (slots.Kept form ∷ shapes) h = slots_least shapes h
slots_least (slots.Reserved form bytes ∷ shapes) h =
    let b = both_true (is_constant (form_of form) bytes.now) (have_constants shapes) h in
    and_from (is_least (form_of form) (constant_of (form_of form) bytes.now))
    (are_least (slots_of shapes)) (constant_least (form_of form) bytes.now b.0) (slots_least shapes b.1)

-- the constant of a number of 2 bytes has 2 bytes
pub two_of : (slot : Slot) (form : Form) (constant : Bor (List ℕ)) → slot ≡ slots.Reserved form constant
    → form ≡ forms.Short → has_constant slot ≡ true → length constant.now ≡ 2
unfolding form_bytes
two_of slot form constant is short h =
    let put = constant_put (number_form bytes2) constant.now (rw (is, short) at h) in
    sym (ap length put) ∙ number_bytes-length bytes2 (from_be_bytes (width_of bytes2) constant.now)
