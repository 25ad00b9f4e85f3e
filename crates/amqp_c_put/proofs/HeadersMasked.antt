-- Headers that are not set make no difference.
use Rattle.std.proofs.Common.{◌≡◌, ℕ, Bool, true, false, List, Option, Result, refl}
use Rattle.amqp_types.specs.Flags.{flag_at}
use Rattle.amqp_types.specs.Slots.{Item}
use Rattle.amqp_wire.specs.Frames.{Head}
use Rattle.amqp_entries.specs.declared.errors.PutError.{PutError}
use Rattle.amqp_put.specs.Headers.{header_with, masked_flaw, masked_options}
use Rattle.amqp_put.specs.MadeFrames.{MakesFrame}
use Rattle.amqp_put.specs.Properties.{flaw_if, if_set}
use Rattle.amqp_put.specs.declared.headers.MaskedProperties.{MaskedProperties}

unset_item : (set : Bool) (a b : Item) → set ≡ false → if_set set a ≡ if_set set b
unset_item true a b e = absurd cc
unset_item false a b e = refl

unset_flaw : (set : Bool) (a b : Option PutError) → set ≡ false → flaw_if set a ≡ flaw_if set b
unset_flaw true a b e = absurd cc
unset_flaw false a b e = refl

-- where no headers are set, what stands for them is not looked at
pub without_headers : (p : MaskedProperties) (a b : Item) (f g : Option PutError) (old new : List ℕ) (max channel class body_size : ℕ)
    (result : Result ℕ PutError)
    → flag_at p.mask 13 ≡ false
    → MakesFrame old new max (Head channel (header_with class body_size (masked_options p a))) (masked_flaw p f) result
    → MakesFrame old new max (Head channel (header_with class body_size (masked_options p b))) (masked_flaw p g) result
without_headers p a b f g old new max channel class body_size result none made =
    rw (unset_item (flag_at p.mask 13) a b none, unset_flaw (flag_at p.mask 13) f g none) at made
