-- The names that most proofs of reading cite, passed on from one place. Declares nothing.
pub use Rattle.std.proofs.lemmas.List.{length-map, length-replicate, take-set-le, nil_from_length, drop-take, take_rest, get_or-map, set_comm, take_more_set}
pub use Rattle.std.proofs.lemmas.List.{take-append-le}
pub use Rattle.amqp_types.proofs.Took.{bind_took, value_took, count_took, guard_took, test_took}
pub use Rattle.amqp_types.specs.Judging.{Judge, Fault, took, ◌>>=◌, Judged, unknown_class, unknown_method, IsBytes, fault, past, IsExact}
pub use Rattle.amqp_types.specs.Sequences.{judge_both, judge_map}
pub use Rattle.amqp_types.specs.Numbers.{NumberWidth, bytes1, bytes2, bytes4, bytes8, judge_number, byte_count, number_limit, width_of}
unfoldable pub use Rattle.amqp_types.specs.Strings.{judge_short_string, judge_long_string}
pub use Rattle.amqp_types.specs.Flags.{bit_of, flags_from, flag_at}
unfoldable pub use Rattle.amqp_types.specs.Flags.{judge_flags}
pub use Rattle.amqp_types.specs.ValueJudging.{read_map, took_all, behind_tag, judge_field_table, next_item}
unfoldable pub use Rattle.amqp_types.specs.ValueJudging.{filled, judge_array, judge_behind, judge_decimal, judge_entry, judge_table, judge_tagged, judge_value}
unfoldable pub use Rattle.amqp_types.specs.ValueJudging.{nested}
pub use Rattle.amqp_types.specs.Settling.{settled, value_at}
pub use Rattle.amqp_types.specs.Tags.{tag_at, tag_byte, tag_of}
pub use Rattle.amqp_types.specs.declared.tag.FieldTag.{FieldTag}
pub use Rattle.amqp_fields.specs.declared.node.Node.{Node}
pub use Rattle.amqp_fields.specs.Nodes.{blank, held, keyed, numbered, spanned, cut_byte}
pub use Rattle.amqp_fields.specs.Listed.{end_before, holding, joined, listed_after, listed_array, listed_table, of_kind, scaled, field_count, kept_count}
pub use Rattle.amqp_fields.specs.Listed.{listed_bits, next_place, placed, listed_known, entries_nodes, nodes_in, values_nodes, payload_nodes, version_slots}
pub use Rattle.amqp_fields.specs.Listed.{listed_number, nodes_of}
unfoldable pub use Rattle.amqp_fields.specs.Listed.{listed_behind, listed_entry, listed_items, listed_nested, listed_span, listed_tagged, listed_value}
unfoldable pub use Rattle.amqp_fields.specs.Listed.{listed_form, listed_slot, listed_slots, listed_header, listed_method, listed_option, listed_properties}
unfoldable pub use Rattle.amqp_fields.specs.Listed.{listed_set, listed_payload}
pub use Rattle.amqp_fields.specs.Meaning.{AreInside, HasNoKey, HasNoNumber, IsArray, IsNumber, IsScaled, IsSpan, IsTable, IsText, MeansElement, MeansEntry}
pub use Rattle.amqp_fields.specs.Meaning.{MeansValue, AreNodes, Field, MeansField, MeansItem, field, fields_from, kinds_in, kinds_of, set_field, set_fields}
pub use Rattle.amqp_fields.specs.Meaning.{AreNodesOf, TableInside, IsLeaf}
unfoldable pub use Rattle.amqp_fields.specs.Meaning.{Says, SaysAt, fields_of}
pub use Rattle.amqp_fields.specs.Spans.{LiesIn, SpansLieIn, has_span, LieIn, AreNested}
pub use Rattle.amqp_types.specs.SlotJudging.{judge_slot}
unfoldable pub use Rattle.amqp_types.specs.SlotJudging.{judge_dropped, judge_form, judge_slots}
pub use Rattle.amqp_types.specs.Constants.{inner_depth}
pub use Rattle.amqp_fields.specs.Counting.{total, method_count, set_at, set_count, count_of}
pub use Rattle.amqp_fields.specs.Kinds.{kind_of}
pub use Rattle.std.proofs.lemmas.Bool.Decides.{nat_tests, Decides-eqb}
pub use Rattle.amqp_types.specs.Properties.{Property}
unfoldable pub use Rattle.amqp_types.specs.Properties.{later_properties, properties}
pub use Rattle.amqp_types.specs.Rows.{Row, classes}
unfoldable pub use Rattle.amqp_types.specs.Rows.{rows_of, slots_at}
pub use Rattle.amqp_canonical.specs.Writes.{IsFilled, IsRead, after_key, key_in}
pub use Rattle.amqp_fields.specs.declared.listing.Filled.{Filled}
pub use Rattle.amqp_fields.specs.Finding.{ListsAll, Counts, Lists, key_label}
pub use Rattle.amqp_wire.specs.declared.frame_type.AMQPFrameType.{AMQPFrameType}
pub use Rattle.amqp_wire.specs.Frames.{Frame, Proto, Meth, Head, Body, Beat, BadBeat, beat_on, Raw}
pub use Rattle.amqp_wire.specs.Outlines.{outline_of}
pub use Rattle.amqp_fields.specs.Listing.{Grows, Listing, listing, pushed_all}
unfoldable pub use Rattle.amqp_fields.specs.Listing.{pushed}
pub use Rattle.amqp_canonical.specs.Shapes.{property_of, slot_of, slots_of, form_of}
pub use Rattle.amqp_fields.specs.declared.listing.Step.{Step}
pub use Rattle.amqp_canonical.specs.declared.shapes.Form.{Form}
pub use Rattle.amqp_canonical.specs.declared.shapes.Slot.{Slot}
pub use Rattle.amqp_types.specs.declared.errors.ParserError.{ParserError}
pub use Rattle.std.proofs.lemmas.Bool.{cases_lt}
pub use Rattle.amqp_fields.specs.declared.frames.FramesRead.{FramesRead}
