-- The size of all properties, from those of each: only a table is refused. And that of a content header, from theirs.
use Rattle.std.proofs.Common.{◌≡◌, ℕ, ◌+◌, ◌||◌, List, [], ◌∷◌, ◌++◌, length, Bool, true, false, Option, Some, None, option_map}
use Rattle.std.proofs.Common.{Ok, Err, refl, ap, arith}
use Rattle.std.proofs.lemmas.List.{length-append}
use Rattle.amqp_types.specs.Numbers.{bytes2, number_bytes}
use Rattle.amqp_types.specs.Sizes.{measured}
use Rattle.amqp_types.specs.Slots.{Item, number_item, text_item, entries_item}
use Rattle.amqp_types.specs.SlotBytes.{form_bytes, slots_bytes}
use Rattle.amqp_types.specs.Properties.{Property, properties}
use Rattle.amqp_types.specs.PropertyBytes.{mask_of, optional_bytes, set_bytes, properties_bytes, properties_size, is_deep_option, is_long_option}
use Rattle.amqp_types.specs.PropertyBytes.{any_deep_option, any_long_option}
use Rattle.amqp_types.specs.ContentHeaders.{ContentHeader, header_slots, header_items, content_header_bytes, content_header_size}
use Rattle.amqp_types.specs.declared.errors.GenError.{GenError}
use Rattle.amqp_types.proofs.Numbers.{number_bytes-length}
use Rattle.amqp_properties.specs.Options.{options}
use Rattle.amqp_properties.specs.declared.properties.AMQPProperties.{AMQPProperties}

-- ---- how many bytes

abbrev pub set_size : List Property → List (Option Item) → ℕ
set_size [] options = 0
set_size (p ∷ ps) [] = 0
set_size (p ∷ ps) (option ∷ options) = length (optional_bytes p.form option) + set_size ps options

set_length : (ps : List Property) (options : List (Option Item)) → length (set_bytes ps options) ≡ set_size ps options
unfolding set_bytes
set_length [] options = refl
set_length (p ∷ ps) [] = refl
set_length (p ∷ ps) (option ∷ options) = omega (arith, length-append (optional_bytes p.form option) (set_bytes ps options), set_length ps options)

-- Properties are encoded in two bytes for the mask, and as many as those that are set take.
pub properties_length : (options : List (Option Item)) → length (properties_bytes options) ≡ 2 + set_size properties options
unfolding properties_bytes form_bytes
properties_length options =
    let mask = number_bytes bytes2 (mask_of properties options) in
    omega (arith, length-append mask (set_bytes properties options), number_bytes-length bytes2 (mask_of properties options), set_length properties options)

-- ---- which are refused

text_deep : (o : Option (List ℕ)) → is_deep_option (option_map text_item o) ≡ false
unfolding is_deep_option
text_deep None = refl
text_deep (Some text) = refl

number_deep : (o : Option ℕ) → is_deep_option (option_map number_item o) ≡ false
unfolding is_deep_option
number_deep None = refl
number_deep (Some n) = refl

text_long : (o : Option (List ℕ)) → is_long_option (option_map text_item o) ≡ false
unfolding is_long_option
text_long None = refl
text_long (Some text) = refl

number_long : (o : Option ℕ) → is_long_option (option_map number_item o) ≡ false
unfolding is_long_option
number_long None = refl
number_long (Some n) = refl

or_none : (b : Bool) → (b || false) ≡ b
or_none true = refl
or_none false = refl

pub only_headers_deep : (p : AMQPProperties) → any_deep_option (options p) ≡ is_deep_option (option_map entries_item p.headers)
unfolding any_deep_option
only_headers_deep p =
    rw (
      text_deep p.content_type,
      text_deep p.content_encoding,
      number_deep p.delivery_mode,
      number_deep p.priority,
      text_deep p.correlation_id,
      text_deep p.reply_to,
      text_deep p.expiration,
      text_deep p.message_id,
      number_deep p.timestamp,
      text_deep p.kind,
      text_deep p.user_id,
      text_deep p.app_id,
      text_deep p.cluster_id,
    ) (or_none _)

pub only_headers_long : (p : AMQPProperties) → any_long_option (options p) ≡ is_long_option (option_map entries_item p.headers)
unfolding any_long_option
only_headers_long p =
    rw (
      text_long p.content_type,
      text_long p.content_encoding,
      number_long p.delivery_mode,
      number_long p.priority,
      text_long p.correlation_id,
      text_long p.reply_to,
      text_long p.expiration,
      text_long p.message_id,
      number_long p.timestamp,
      text_long p.kind,
      text_long p.user_id,
      text_long p.app_id,
      text_long p.cluster_id,
    ) (or_none _)

-- ---- both

refused_alike : (deep long : Bool) (headers all : List ℕ) (e : GenError) → Err e ≡ measured deep long headers → Err e ≡ measured deep long all
refused_alike true long headers all e h = h
refused_alike false true headers all e h = h
refused_alike false false headers all e h = absurd cc

counted : (deep long : Bool) (headers all : List ℕ) (rest n : ℕ) → length all ≡ rest + length headers
    → Ok n ≡ measured deep long headers → Ok (rest + n) ≡ measured deep long all
counted true long headers all rest n sum h = absurd cc
counted false true headers all rest n sum h = absurd cc
counted false false headers all rest n sum h = let e : n ≡ length headers = cc in ap Ok (omega (arith, e, sum))

-- The error of measuring the headers table is the error of measuring all properties.
pub size_refused : (p : AMQPProperties) (headers : List ℕ) (e : GenError)
    → Err e ≡ measured (is_deep_option (option_map entries_item p.headers)) (is_long_option (option_map entries_item p.headers)) headers
    → Err e ≡ properties_size (options p)
unfolding properties_size
size_refused p headers e h = rw (only_headers_deep p, only_headers_long p) (refused_alike _ _ headers (properties_bytes (options p)) e h)

-- Where the headers table is measured, the size of all properties is its bytes and those of the rest.
pub size_counted : (p : AMQPProperties) (headers : List ℕ) (rest n : ℕ) → length (properties_bytes (options p)) ≡ rest + length headers
    → Ok n ≡ measured (is_deep_option (option_map entries_item p.headers)) (is_long_option (option_map entries_item p.headers)) headers
    → Ok (rest + n) ≡ properties_size (options p)
unfolding properties_size
size_counted p headers rest n sum h = rw (only_headers_deep p, only_headers_long p) (counted _ _ headers (properties_bytes (options p)) rest n sum h)

-- ---- content headers

start_counted : (deep long : Bool) (start rest : List ℕ) (n : ℕ) → length start ≡ 12
    → measured deep long rest ≡ Ok n → measured deep long (start ++ rest) ≡ Ok (12 + n)
start_counted true long start rest n twelve h = absurd cc
start_counted false true start rest n twelve h = absurd cc
start_counted false false start rest n twelve h = let same : length rest ≡ n = cc in ap Ok (omega (arith, length-append start rest, twelve, same))

-- the size of a content header by that of its properties
pub header_counted : (header : ContentHeader) (n : ℕ) → properties_size header.options ≡ Ok n → content_header_size header ≡ Ok (12 + n)
unfolding content_header_size content_header_bytes properties_size slots_bytes form_bytes header_slots
header_counted header n h =
    start_counted (any_deep_option header.options) (any_long_option header.options)
    (slots_bytes header_slots (header_items header)) (properties_bytes header.options) n refl h
