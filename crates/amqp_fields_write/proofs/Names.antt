-- The names that most proofs of writing cite, passed on from one place.
use Rattle.amqp_fields.specs as reading
use Rattle.amqp_fields_write.specs
use Rattle.amqp_types.specs as types
pub use Rattle.std.proofs.Common.{◌≡◌, ℕ, ◌+◌, ◌<◌, ◌≤◌, Bool, true, false, List, [], ◌∷◌, ◌++◌, length, Result, Ok, Err, refl, sym, ap, ◌∙◌, arith, nat_lt}
pub use Rattle.std.proofs.Common.{append_assoc, append-nil, ◌^◌, take, drop, Some, ◌-◌, ◌*◌, ap₂, zero, suc, ◌==◌, get_or, inl, inr, Bor, ◌&&◌, Option, ◌%◌}
pub use Rattle.std.proofs.Common.{◌⊎◌, nat_le, if◌then◌else◌, map, replicate, subst, None, unwrap_or, ℤ, rules}
pub use Rattle.std.proofs.Math.Pow.{pow_mono}
pub use Rattle.std.proofs.lemmas.Bool.{cases_lt}
use Rattle.std.proofs.lemmas.Bool.Decides.{nat_tests}
pub use Rattle.std.proofs.lemmas.Int.{of_z-to_z, to_z_pos}
pub use Rattle.std.proofs.lemmas.List.{length-append, drop_at, take_at, take-append-drop, take-take, drop-drop, length-take-le, length-drop, drop_all}
pub use Rattle.std.proofs.lemmas.List.{drop_more, length-replicate, length-map, take_all, at_drop_all, at_drop_more, drop-map, take_rest}
pub use Rattle.std.specs.Prelude.{IsErrAnd, IfOk, is_some}
pub use Rattle.std.specs.Str.{IsUtf8, is_utf8, IsAscii}
pub use types.Booleans.{SpellsBoolean}
pub use types.Constants.{inner_depth, protocol_byte, protocol_mark, end_byte}
pub use types.Flags.{bit_of, flags_byte, flags_bytes, flags_from, flag_at, FromTidy}
pub use types.Judging.{IsBytes, Fault, Judge, IsExact, took}
pub use types.Levels.{plain, Level, strict, tidy}
pub use types.Numbers.{bytes2, number_bytes, NumberWidth, bytes1, bytes4, bytes8, number_limit, width_of, SpellsNumber}
unfoldable pub use types.PropertyBytes.{mask_of, worth_of}
unfoldable pub use types.Rows.{slots_at}
pub use types.Settling.{settled, IsRising}
pub use types.Strings.{is_too_long}
pub use types.Tags.{tag_at, tag_byte, tag_of, SpellsTag}
unfoldable pub use types.Writing.{written}
pub use types.Writing.{Puts}
pub use types.declared.tag.FieldTag.{FieldTag}
pub use Rattle.amqp_canonical.proofs.Constants.{constant_at}
pub use Rattle.amqp_canonical.specs.Shapes.{slots_of, property_of, slot_of}
pub use Rattle.amqp_canonical.specs.declared.shapes.Slot.{Slot}
pub use Rattle.amqp_wire.specs.Spelling.{SpellsFrames, IsFramed, IsWithin, Spells, framed, proto, IsBeatPayload, head}
pub use Rattle.amqp_fields.proofs.Spans.{byte_below}
pub use reading.Heads.{no_head}
pub use reading.Listed.{next_place, version_slots, kept_count}
pub use reading.Meaning.{AreNodes, IsSpan}
pub use reading.Nodes.{StandsFirst, PassesEnd, blank}
pub use reading.declared.head.Head.{Head}
pub use reading.declared.node.Node.{Node}
pub use specs.MadeFields.{flag_before, is_flag, worths, group_size, made_none, made_slot, node_count, is_next}
unfoldable pub use specs.MadeFields.{flags_in, made_properties, made_slots, made_field, made_set, set_at}
unfoldable pub use specs.MadeFrames.{made_frames, given_length}
pub use specs.MadeFrames.{at_head, is_given}
pub use specs.Makes.{IsCounted, Measures, cut_long, made_group, made_item, made_key, IsFlagsByte, given_bytes}
pub use specs.declared.refusals.Refusal.{Refusal}
pub use specs.declared.refusals.WriteError.{WriteError}
pub use Rattle.amqp_canonical.specs.declared.shapes.Form.TheVariants as forms
pub use Rattle.amqp_canonical.specs.declared.shapes.Slot.TheVariants as slots
pub use reading.declared.head.Head as given
pub use specs.declared.refusals.WriteError.TheVariants as failures
pub use specs.declared.refusals.WriteRefusal.TheVariants as whys
pub use types.Slots as meant
pub use types.declared.errors.ParserError.TheVariants as errors
pub use types.declared.tag.FieldTag.TheVariants as tag

-- sums, and tests of numbers
pub ruleset numbers = (arith, nat_tests)
