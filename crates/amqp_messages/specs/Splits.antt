-- A message, split into frames.
use Rattle.std.specs.Prelude.{ℕ, List, ◌∷◌, map, length}
use Rattle.amqp_properties.specs.Options.{options}
use Rattle.amqp_types.specs.ContentHeaders.{ContentHeader}
use Rattle.amqp_wire.specs.Frames.{Frame, Meth, Head, Body}
pub use Rattle.amqp_turns.specs.Splits.{pieces}
use Rattle.amqp_messages.specs.Messages.{Parts, opening_method}

-- the content header of a message
abbrev pub split_header : Parts → ContentHeader
split_header message =
    record { class_id = 60; body_size = length message.body; options = options message.properties }

-- the opening, the content header, and bodies of m bytes, the last of as many as are left
abbrev pub split_of : ℕ → Parts → List Frame
split_of m message =
    Meth message.channel (opening_method message.opening)
    ∷ Head message.channel (split_header message)
    ∷ map (λ piece. Body message.channel piece) (pieces m message.body)

-- a message, and how many bytes of its body each piece has
pub record Sent : Type 0 where
  pub message : Parts
  pub size : ℕ

-- its frames
abbrev pub sent_frames : Sent → List Frame
sent_frames sent = split_of sent.size sent.message
