-- Tags are read as they are encoded.
use Rattle.std.proofs.Common.{◌≡◌, ℕ, Bool, true, false, eqb, cond, List, [], ◌∷◌, Option, Some, inl, inr, refl, subst, arith}
use Rattle.std.proofs.lemmas.Bool.Decides.{nat_tests}
use Rattle.amqp_types.specs.Levels.{plain}
use Rattle.amqp_types.specs.Tags.{short_int_read_byte, long_long_int_read_byte, tag_byte, tag_among, tag_at, tags, SpellsTag}
use Rattle.amqp_types.specs.declared.tag.FieldTag.{FieldTag}
use Rattle.amqp_types.specs.declared.tag.FieldTag.TheVariants as tag

-- a test on the byte, and what is read where it fails
tested : (same : Bool) (byte k : ℕ) (t u : FieldTag) (others : Option FieldTag) → eqb byte k ≡ same → SpellsTag plain k u
    → (others ≡ Some t → SpellsTag plain byte t) → cond same (Some u) others ≡ Some t → SpellsTag plain byte t
tested true byte k t u others is ok more h =
    let at : k ≡ byte = grind (arith, nat_tests) in
    let one : u ≡ t = cc in
    let P : ℕ → Type 0 = λ n. SpellsTag plain n t in
    let Q : FieldTag → Type 0 = λ x. SpellsTag plain k x in
    subst P at (subst Q one ok)
tested false byte k t u others is ok more h = more h

among_spelled : (ts : List FieldTag) (byte : ℕ) (t : FieldTag) → tag_among ts byte ≡ Some t → SpellsTag plain byte t
among_spelled [] byte t h = cc
among_spelled (u ∷ ts) byte t h = tested (eqb byte (tag_byte u)) byte (tag_byte u) t u (tag_among ts byte) refl (inl refl) (among_spelled ts byte t) h

-- A byte that is read as a tag encodes that tag at level plain.
pub tag_spelled : (byte : ℕ) (t : FieldTag) → tag_at byte ≡ Some t → SpellsTag plain byte t
tag_spelled byte t h =
    tested (eqb byte short_int_read_byte) byte short_int_read_byte t tag.ShortInt _ refl (inr refl)
    (tested (eqb byte long_long_int_read_byte) byte long_long_int_read_byte t tag.LongLongInt _ refl (inr refl) (among_spelled tags byte t)) h

-- A byte that encodes a tag at level plain is read as that tag.
pub tag_read : (byte : ℕ) (t : FieldTag) → SpellsTag plain byte t → tag_at byte ≡ Some t
tag_read byte tag.Boolean (inl e) = rw e
tag_read byte tag.ShortShortInt (inl e) = rw e
tag_read byte tag.ShortShortUInt (inl e) = rw e
tag_read byte tag.ShortInt (inl e) = rw e
tag_read byte tag.ShortUInt (inl e) = rw e
tag_read byte tag.LongInt (inl e) = rw e
tag_read byte tag.LongUInt (inl e) = rw e
tag_read byte tag.LongLongInt (inl e) = rw e
tag_read byte tag.Float (inl e) = rw e
tag_read byte tag.Double (inl e) = rw e
tag_read byte tag.DecimalValue (inl e) = rw e
tag_read byte tag.LongString (inl e) = rw e
tag_read byte tag.FieldArray (inl e) = rw e
tag_read byte tag.Timestamp (inl e) = rw e
tag_read byte tag.FieldTable (inl e) = rw e
tag_read byte tag.ByteArray (inl e) = rw e
tag_read byte tag.Void (inl e) = rw e
tag_read byte tag.ShortInt (inr e) = rw e
tag_read byte tag.LongLongInt (inr e) = rw e
tag_read byte t (inr e) = absurd e
