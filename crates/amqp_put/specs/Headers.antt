-- Content headers that are written by their properties.
use Rattle.std.specs.Prelude.{◌≡◌, ◌<◌, ◌^◌, ℕ, false, List, [], ◌∷◌, Option, None, option_map}
use Rattle.std.specs.Prelude.{Result}
use Rattle.amqp_types.specs.Flags.{flag_at}
use Rattle.amqp_types.specs.Slots.{Item, number_item, text_item, entries_item, Form, table_form}
use Rattle.amqp_types.specs.ContentHeaders.{ContentHeader}
use Rattle.amqp_types.specs.Constants.{inner_depth}
use Rattle.amqp_wire.specs.Frames.{Head}
use Rattle.amqp_entries.specs.Contents.{table_in, table_flaw as content_flaw}
use Rattle.amqp_entries.specs.Flaws.{text_flaw}
use Rattle.amqp_entries.specs.declared.table_content.TableContent.{TableContent}
use Rattle.amqp_put.specs.Flaws.{first_flaw}
use Rattle.amqp_put.specs.MadeFrames.{MakesFrame}
use Rattle.amqp_put.specs.Properties.{where_some, if_set, flaw_if}
use Rattle.amqp_entries.specs.declared.errors.PutError.{PutError}
use Rattle.amqp_put.specs.declared.strings.Text.{Text}
use Rattle.amqp_put.specs.declared.headers.Properties.{Properties}
use Rattle.amqp_put.specs.declared.headers.MaskedProperties.{MaskedProperties}

-- bits 1 and 0 of a mask, which are no property's, are 0
abbrev pub HasNoUnusedBit : ℕ → Type 0
HasNoUnusedBit mask = (flag_at mask 1 ≡ false) × (flag_at mask 0 ≡ false)

-- bits 14, 8, 5, 4, 3 and 2, which are of texts that few messages have, are 0
abbrev pub HasNoRareBit : ℕ → Type 0
HasNoRareBit mask =
    (flag_at mask 14 ≡ false) × (flag_at mask 8 ≡ false) × (flag_at mask 5 ≡ false)
    × (flag_at mask 4 ≡ false) × (flag_at mask 3 ≡ false) × (flag_at mask 2 ≡ false)

-- a text where it is set, and why it is not written
abbrev pub set_text : Option Text → Option Item
set_text = option_map (λ text. text_item text.bytes.now)

-- the flaw of a short string, where it is set
abbrev pub set_flaw : Option Text → Option PutError
set_flaw = where_some None (λ text. text_flaw text.bytes.now)

-- what a table gives, and why it is not written
abbrev pub table_item : TableContent → Item
table_item table = entries_item (table_in inner_depth table.content.now)

-- the flaw of a table
abbrev pub table_flaw : TableContent → Option PutError
table_flaw table = content_flaw inner_depth table.content.now

-- the 14 properties in the order of the mask, from bit 15 down to bit 2, each with its item where
-- it is set
abbrev pub options_of : Properties → List (Option Item)
options_of p =
    set_text p.content_type ∷
    set_text p.content_encoding ∷
    option_map table_item p.headers ∷
    option_map number_item p.delivery_mode ∷
    option_map number_item p.priority ∷
    set_text p.correlation_id ∷
    set_text p.reply_to ∷
    set_text p.expiration ∷
    set_text p.message_id ∷
    option_map number_item p.timestamp ∷
    set_text p.kind ∷
    set_text p.user_id ∷
    set_text p.app_id ∷
    set_text p.cluster_id ∷
    []

-- why they are not written
abbrev pub flaw_of : Properties → Option PutError
flaw_of p =
    first_flaw (
    set_flaw p.content_type ∷
    set_flaw p.content_encoding ∷
    where_some None table_flaw p.headers ∷
    set_flaw p.correlation_id ∷
    set_flaw p.reply_to ∷
    set_flaw p.expiration ∷
    set_flaw p.message_id ∷
    set_flaw p.kind ∷
    set_flaw p.user_id ∷
    set_flaw p.app_id ∷
    set_flaw p.cluster_id ∷
    [])

-- the header of these options
abbrev pub header_with : ℕ → ℕ → List (Option Item) → ContentHeader
header_with class body_size options =
    record { class_id = class; body_size = body_size; options = options }

-- the 14 properties of which a mask says which are set, with these headers
abbrev pub masked_options : MaskedProperties → Item → List (Option Item)
masked_options p headers =
    if_set (flag_at p.mask 15) (text_item p.content_type.now) ∷
    if_set (flag_at p.mask 14) (text_item p.content_encoding.now) ∷
    if_set (flag_at p.mask 13) headers ∷
    if_set (flag_at p.mask 12) (number_item p.delivery_mode) ∷
    if_set (flag_at p.mask 11) (number_item p.priority) ∷
    if_set (flag_at p.mask 10) (text_item p.correlation_id.now) ∷
    if_set (flag_at p.mask 9) (text_item p.reply_to.now) ∷
    if_set (flag_at p.mask 8) (text_item p.expiration.now) ∷
    if_set (flag_at p.mask 7) (text_item p.message_id.now) ∷
    if_set (flag_at p.mask 6) (number_item p.timestamp) ∷
    if_set (flag_at p.mask 5) (text_item p.kind.now) ∷
    if_set (flag_at p.mask 4) (text_item p.user_id.now) ∷
    if_set (flag_at p.mask 3) (text_item p.app_id.now) ∷
    if_set (flag_at p.mask 2) (text_item p.cluster_id.now) ∷
    []

-- why they are not written
abbrev pub masked_flaw : MaskedProperties → Option PutError → Option PutError
masked_flaw p headers =
    first_flaw (
    flaw_if (flag_at p.mask 15) (text_flaw p.content_type.now) ∷
    flaw_if (flag_at p.mask 14) (text_flaw p.content_encoding.now) ∷
    flaw_if (flag_at p.mask 13) headers ∷
    flaw_if (flag_at p.mask 10) (text_flaw p.correlation_id.now) ∷
    flaw_if (flag_at p.mask 9) (text_flaw p.reply_to.now) ∷
    flaw_if (flag_at p.mask 8) (text_flaw p.expiration.now) ∷
    flaw_if (flag_at p.mask 7) (text_flaw p.message_id.now) ∷
    flaw_if (flag_at p.mask 5) (text_flaw p.kind.now) ∷
    flaw_if (flag_at p.mask 4) (text_flaw p.user_id.now) ∷
    flaw_if (flag_at p.mask 3) (text_flaw p.app_id.now) ∷
    flaw_if (flag_at p.mask 2) (text_flaw p.cluster_id.now) ∷
    [])

-- ---- what a call has that puts the frame of a content header by a mask

-- The headers are a table, whose size is counted, and no bit of the mask is set that is no
-- property's.
pub record TakesHeaders (form : Form) (most mask : ℕ) : Type 0 where
  pub table : form ≡ table_form
  pub few : most < 2 ^ 38
  pub second : flag_at mask 1 ≡ false
  pub lowest : flag_at mask 0 ≡ false

-- The canonical bytes of the frame, with these headers, which have this flaw.
abbrev pub MakesHeader : List ℕ → List ℕ → ℕ → ℕ → ℕ → ℕ → MaskedProperties → Item
    → Option PutError → Result ℕ PutError → Type 0
MakesHeader old new max channel class body_size p headers flaw result =
    MakesFrame old new max
    (Head channel (header_with class body_size (masked_options p headers)))
    (masked_flaw p flaw) result
