-- Pieces that are put one after another, and what is left of them.
use Rattle.std.proofs.Common.{◌≡◌, ℕ, ◌+◌, ◌≤◌, List, [], ◌∷◌, ◌++◌, length, Option, Bool, true, false, IsOk, refl, sym, subst, ◌∙◌, option_map, arith}
use Rattle.amqp_types.specs.Numbers.{bytes2, number_bytes}
use Rattle.amqp_types.specs.Sizes.{measured}
use Rattle.amqp_types.specs.Slots.{Item, entries_item}
use Rattle.amqp_types.specs.SlotBytes.{form_bytes}
use Rattle.amqp_types.specs.Properties.{Property, properties}
use Rattle.amqp_types.specs.PropertyBytes.{mask_of, optional_bytes, set_bytes, properties_bytes, properties_size, is_deep_option, is_long_option}
use Rattle.amqp_types.specs.Writing.{Puts}
use Rattle.amqp_types.proofs.WrittenParts.{written-nil}
use Rattle.amqp_laws.proofs.Pieces.{IsPut, has_room, puts, is_put}
use Rattle.amqp_properties.specs.Options.{options}
use Rattle.amqp_properties.specs.declared.properties.AMQPProperties.{AMQPProperties}
use Rattle.amqp_properties.proofs.Sizes.{only_headers_deep, only_headers_long}

-- from place on, the properties that are set of these are still to be put
pub record Left (before now : List ℕ) (at place : ℕ) (ps : List Property) (os : List (Option Item)) (all : List ℕ) : Type 0 where
  pub done : List ℕ
  pub put : IsPut before now at place done (set_bytes ps os) all

-- the next property has room
pub room : {before now all : List ℕ} {at place : ℕ} {p : Property} {ps : List Property} {o : Option Item} {os : List (Option Item)}
    → at + length all ≤ length before → Left before now at place (p ∷ ps) (o ∷ os) all → place + length (optional_bytes p.form o) ≤ length now
unfolding set_bytes
room fits x = has_room _ _ _ _ x.done _ _ _ fits x.put

-- it is put
pub next : {before now after all : List ℕ} {at place end : ℕ} {p : Property} {ps : List Property} {o : Option Item} {os : List (Option Item)}
    → at + length all ≤ length before → Left before now at place (p ∷ ps) (o ∷ os) all → Puts now after place (optional_bytes p.form o) end
    → Left before after at end ps os all
unfolding set_bytes
next fits x q = record { done = x.done ++ _; put = puts _ _ _ _ _ _ x.done _ _ _ fits x.put q }

-- all of them are put
pub ends : {before now all : List ℕ} {at place : ℕ} → Left before now at place [] [] all → Puts before now at all place
unfolding set_bytes
ends x = is_put _ _ _ _ x.done _ x.put

-- Where the mask is put, all properties are left.
pub masked : (p : AMQPProperties) (before now : List ℕ) (at place mask : ℕ) → at + length (properties_bytes (options p)) ≤ length before
    → mask ≡ mask_of properties (options p) → Puts before now at (number_bytes bytes2 mask) place
    → Left before now at place properties (options p) (properties_bytes (options p))
unfolding properties_bytes form_bytes
masked p before now at place mask fits is q =
    let all = properties_bytes (options p) in
    let first : IsPut before before at at [] all all = record { whole = refl; here = sym (written-nil before at); end = omega arith } in
    let bytes = number_bytes bytes2 (mask_of properties (options p)) in
    record {
      done = [] ++ bytes;
      put = puts before before now at at place [] bytes (set_bytes properties (options p)) all fits first
          (subst (λ m. Puts before now at (number_bytes bytes2 m) place) is q);
    }

ok_parts : (deep long : Bool) (bytes : List ℕ) → IsOk (measured deep long bytes) → (deep ≡ false) × (long ≡ false)
ok_parts true long bytes h = absurd cc
ok_parts false true bytes h = absurd cc
ok_parts false false bytes h = (refl, refl)

-- Where all properties have a size, the table of headers is neither too deep nor too long.
pub headers_fit : (p : AMQPProperties) → IsOk (properties_size (options p))
    → (is_deep_option (option_map entries_item p.headers) ≡ false) × (is_long_option (option_map entries_item p.headers) ≡ false)
unfolding properties_size
headers_fit p h =
    let parts = ok_parts _ _ _ h in
    (sym (only_headers_deep p) ∙ parts.0, sym (only_headers_long p) ∙ parts.1)
