-- Tag bytes, and how what stands after them is laid out.
use Rattle.std.proofs.Common.{◌≡◌, ◌↔◌, ℕ, IsTrue, Option, Some, None, refl, ap, subst}
use Rattle.std.specs.Prelude.{option_map}
use Rattle.amqp_types.specs.Tags.{tag_byte}
use Rattle.amqp_types.specs.declared.tag.FieldTag.{FieldTag}
use Rattle.amqp_canonical.specs.declared.values.TagByte.{TagByte}
use Rattle.amqp_canonical.specs.Judgements.{layout_at, read_as}
use Rattle.amqp_canonical.proofs.AfterTag.{same_decided}

-- A byte of which no layout is said is no tag.
pub no_tag : (byte : ℕ) (o : Option FieldTag) → option_map (read_as byte) o ≡ None → o ≡ None
no_tag byte None h = refl
no_tag byte (Some t) h = absurd cc

-- the tag that a byte is read as, and what the byte says of it
pub record Tagged (byte : ℕ) (o : Option FieldTag) (decides : TagByte) : Type 0 where
  pub tag : FieldTag
  pub is : o ≡ Some tag
  pub layout_is : layout_at tag ≡ decides.layout
  pub is_written : IsTrue decides.written ↔ (tag_byte tag ≡ byte)

-- A byte of which a layout is said is a tag with this layout, and it is said whether it is the byte that is written.
pub some_tag : (byte : ℕ) (o : Option FieldTag) (decides : TagByte) → option_map (read_as byte) o ≡ Some decides → Tagged byte o decides
some_tag byte None decides h = absurd cc
some_tag byte (Some t) decides h =
    let same : read_as byte t ≡ decides = cc in
    record { tag = t; is = refl; layout_is = ap (λ b. b.layout) same; is_written = subst (λ b. IsTrue b.written ↔ (tag_byte t ≡ byte)) same (same_decided _ _) }
