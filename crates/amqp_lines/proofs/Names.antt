-- The names that most proofs of lines cite, passed on from one place.
use Rattle.amqp_lines.specs
use Rattle.amqp_types.specs as types
use Rattle.amqp_stream.specs as streams
use Rattle.amqp_wire.specs as wire
pub use Rattle.std.proofs.Common.{◌≡◌, length, arith, ◌∙◌, ap, refl, ℕ, [], sym, ◌++◌, List, ◌∷◌, append_assoc, drop, append-nil, Ok, ◌<◌, ◌≤◌, ◌+◌, ◌-◌, true}
pub use Rattle.std.proofs.Common.{Err, take, Result, false, inl, None, Some, ◌≢◌, inr, suc, zero, Bool, subst, ◌^◌, map, get_or, ◌*◌, Option, ◌%◌, cond, ◌⊎◌}
pub use Rattle.std.proofs.Common.{◌/◌, ap₂, rules, pos, negsuc, Bor, ◌↔◌}
pub use Rattle.std.proofs.lemmas.Bool.{ne_eqb, eq-eqb, cases_lt, cases_eq}
use Rattle.std.proofs.lemmas.Bool.Decides.{nat_tests}
pub use Rattle.std.proofs.lemmas.List.{length-append, take_at, take_rest, drop_at, length-drop, take-append-drop, take_all, take-append-le, length-take}
pub use Rattle.std.proofs.lemmas.Slice.Eq.{bytes_eq-Decides}
pub use Rattle.std.specs.Fmt.{decimal, signed_decimal, digits_onto, digit_glyph}
unfoldable pub use Rattle.std.specs.Fmt.{digits}
pub use Rattle.std.specs.Int.{cast_signed}
pub use Rattle.std.specs.List.{flat_map, AllByRecursion, list_all}
pub use Rattle.std.specs.Map.{lookup}
pub use Rattle.std.specs.Prelude.{codes, ◌==◌, unwrap_or, IfErr, nat_lt}
pub use Rattle.amqp_canonical.specs.Shapes.{slots_of, slot_of, property_of, form_of}
pub use Rattle.amqp_canonical.specs.Writes.{IsRead}
pub use Rattle.amqp_laws.proofs.Conversions.{entries_of-pairs, pairs-entries_of}
pub use Rattle.amqp_laws.proofs.Exactly.{value_some}
pub use Rattle.amqp_laws.proofs.HeaderLaws.{content_headers_lawful, options_are}
pub use Rattle.amqp_laws.proofs.MethodLaws.{payloads_lawful}
pub use Rattle.amqp_laws.proofs.PropertyLaws.{one_each}
pub use Rattle.amqp_laws.proofs.SlotForms.{flags_of-map, form_gives, forms_lawful}
pub use Rattle.amqp_laws.proofs.SlotLaws.{both_true}
pub use Rattle.amqp_stream.proofs.Adding.{IsBytes-nil, IsBytes-append, taken_of, Gains-then, Rises-later, Gains-none}
pub use Rattle.amqp_types.proofs.Bytes.{IsBytes-drop}
pub use Rattle.amqp_types.proofs.FlagBytes.{flags_from_length}
pub use Rattle.amqp_types.proofs.Numbers.{number_exact}
pub use Rattle.amqp_types.proofs.Texts.{long_string_exact}
pub use Rattle.amqp_types.proofs.Took.{value_took}
pub use Rattle.amqp_wire.proofs.Encoded.{verdict-spells}
pub use Rattle.amqp_wire.proofs.Outlined.{header_front}
pub use Rattle.amqp_wire.proofs.Spelled.{verdict-spelled}
pub use Rattle.amqp_wire.proofs.Strictness.{one_strict}
pub use specs.Laws.{IsStrict}
pub use specs.LineReading.{HasNoNewline, Decides, IsFirstLine, GathersLines, end_of_text, GathersAll, RendersLine, StopsWith, ReadsOnce}
pub use specs.LineTexts.{HasNoLine, PutsLine, PutsBoth}
pub use specs.Lines.{beat_words, longest_line}
unfoldable pub use specs.Lines.{line, lines, words, header_words, method_words, spaced}
pub use specs.OneLine.{IsStrictWithin, IsNoLine, IsLineOf}
pub use specs.Payloads.{IsPayload, IsIn}
pub use specs.Reading.{read_item, followed, Reader, framed, last_bytes, ends_at, closing, strip, with_option, first_is}
unfoldable pub use specs.Reading.{listed, inside, read_hex, or_comma, is_hex, is_digit, read_escaped, read_words, read_string, read_number, read_value}
unfoldable pub use specs.Reading.{read_digits, read_slot, read_slots, read_lists, read_form, read_properties, read_set, read_byte_array, read_list, read_tagged}
unfoldable pub use specs.Reading.{read_bits, read_signs, nibble}
pub use specs.Rendering.{slot_text, Says, WritesText}
unfoldable pub use specs.Rendering.{entry_text, array_text}
pub use specs.Slots.{property_names}
unfoldable pub use specs.Slots.{set_text, slots_text, property_name, form_text, option_text}
pub use specs.UndumpReports.{PassesLines, first_line}
pub use specs.Undumping.{HoldsNewline, IsLongestText, AreStrict, Undumps, HasCauseUndumped, UndumpRun, UndumpsExactly}
pub use specs.Values.{tag_text, content_text, entries_texts, values_texts, truth_text}
unfoldable pub use specs.Values.{table_text, value_text}
pub use specs.Words.{sign}
unfoldable pub use specs.Words.{quoted, signs, hex, hex_byte, parted, escaped, is_plain, hex_digit}
pub use specs.declared.errors.UndumpError.{UndumpError}
pub use specs.declared.report.LinePlace.{LinePlace}
pub use streams.Calls.{call_of, Call, as_reported}
pub use streams.Changes.{◌⇒◌}
pub use streams.Ends.{Store, Supply, IsEmpty, Gains}
pub use streams.Errors.{cause_of}
pub use streams.Writing.{Gathered, GatherFails, WritesAll}
pub use streams.declared.errors.StreamError.{StreamError}
pub use streams.declared.sink.SinkFault.{SinkFault}
pub use types.ContentHeaders.{SpellsContentHeader, ContentHeader}
unfoldable pub use types.ContentHeaders.{content_header_bytes, header_slots}
pub use types.Flags.{flag_at, flags_from, SpellsFlags}
pub use types.Judging.{IsBytes, took, Judged}
pub use types.Levels.{strict, plain}
pub use types.MethodSpelling.{SpellsPayload}
pub use types.Methods.{Method, payload_bytes}
pub use types.Numbers.{bytes2, number_bytes, bytes1, bytes4, bytes8, NumberWidth, byte_count, SpellsNumber, width_of, number_limit, judge_number}
pub use types.Properties.{Property}
unfoldable pub use types.Properties.{properties, later_properties}
unfoldable pub use types.PropertyBytes.{mask_of, set_bytes, properties_bytes}
pub use types.PropertyJudging.{first_item}
pub use types.PropertyLaws.{give_one, gives_one}
pub use types.PropertySpelling.{SpellsProperties, SpellsOptional, SpellsSet}
unfoldable pub use types.Rows.{slots_at}
pub use types.Sequences.{SpellsBoth, SpellsMapped}
unfoldable pub use types.SlotBytes.{form_bytes}
pub use types.SlotSpelling.{SpellsSlots, SpellsForm, SpellsSlot}
pub use types.Slots.{kept_slot, Item, long_string_form, reserved_slot, Slot, table_form, number_form, short_string_form, flags_form, Form, text_item}
pub use types.Slots.{number_item, entries_item, bytes_item}
pub use types.Strings.{SpellsLongString, SpellsShortString}
pub use types.Tags.{tag_of, tag_byte, tag_at}
pub use types.ValueBytes.{signed_width, unsigned_width}
pub use types.ValueSpelling.{SpellsEntry, SpellsTable, SpellsTagged, SpellsEach, SpellsBehind, SpellsArray}
unfoldable pub use types.ValueSpelling.{SpellsValue}
pub use types.Values.{decimal_value, signed_value, Entry, array_value, bytes_value, table_value, boolean_value, FieldValue, void_value, unsigned_value}
pub use types.Values.{FieldValues, FieldEntries, byte_array, long_string, items, pairs, next_entry, next_value, no_values, no_entries, entries_of}
pub use types.Values.{short_short_uint, short_short_int}
pub use types.declared.errors.NoMemory.{NoMemory}
pub use types.declared.tag.FieldTag.{FieldTag}
pub use wire.Canonical.{canon_frames, payload_of}
unfoldable pub use wire.Canonical.{canon}
pub use wire.Frames.{Frame, Head, Proto, BadBeat, Body, Meth, Beat, Raw, channel_id_of, raw_of}
pub use wire.Fronts.{front}
pub use wire.Spelling.{Spells, SpellsFrames, IsFramed, raw_bytes}
pub use wire.Verdicts.{decode_raw, judge_frame}
unfoldable pub use wire.Verdicts.{decode_payload}
pub use wire.declared.frame_type.AMQPFrameType.{AMQPFrameType}
pub use wire.declared.outline.FrameOutline.{FrameOutline}
pub use wire.declared.version.ProtocolVersion.{ProtocolVersion}
pub use specs.declared.errors.UndumpError.TheVariants as errors
pub use Rattle.amqp_canonical.specs.declared.shapes.Form.TheVariants as forms
pub use wire.declared.frame_type.AMQPFrameType.TheVariants as kinds
pub use wire.declared.outline.FrameOutline.TheVariants as outlines
pub use Rattle.amqp_canonical.specs.declared.shapes.Slot.TheVariants as slots
pub use types.declared.tag.FieldTag.TheVariants as tag

-- what a call of lines returns
abbrev pub Answer : Type 0
Answer = Result (Unit {0}) UndumpError

-- sums, and tests of numbers
pub ruleset numbers = (arith, nat_tests)

-- Bytes after others are as many as both.
pub length_both : (a b : List ℕ) → length (a ++ b) ≡ length a + length b
length_both a b = length-append a b

-- sums, and lengths of bytes
pub ruleset lengths = (arith, length_both)
