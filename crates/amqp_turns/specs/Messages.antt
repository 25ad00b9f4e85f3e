-- What messages say, and what their frames give.
use Rattle.std.specs.Prelude.{ℕ, List, [], ◌∷◌, ◌++◌, Option}
use Rattle.std.specs.List.{flat_map}
use Rattle.amqp_types.specs.Methods.{Method, method}
use Rattle.amqp_types.specs.Slots.{Item}
use Rattle.amqp_types.specs.ContentHeaders.{ContentHeader}
use Rattle.amqp_wire.specs.Frames.{Frame, Proto, Meth, Head, Body, Beat, BadBeat, channel_id_of}
use Rattle.amqp_turns.specs.Units.{Begun, Nothing, Opened, Headed}

-- what a message says, in the words of its frames: its channel, its opening, the properties in its
-- content header, and its body
pub record Content : Type 0 where
  pub channel : ℕ
  pub opening : Method
  pub properties : List (Option Item)
  pub body : List ℕ

-- ---- what a frame gives to its message

-- the method in a frame; other frames have one of class and id 0 with no items
abbrev pub method_in : Frame → Method
method_in (Meth channel m) = m
method_in (Proto major minor revision) = method 0 0 []
method_in (Head channel header) = method 0 0 []
method_in (Body channel content) = method 0 0 []
method_in Beat = method 0 0 []
method_in (BadBeat channel) = method 0 0 []

-- what stands for the content header of a frame that has none
abbrev no_header : ContentHeader
no_header = record { class_id = 0; body_size = 0; options = [] }

-- the content header in a frame
abbrev pub header_in : Frame → ContentHeader
header_in (Head channel header) = header
header_in (Proto major minor revision) = no_header
header_in (Meth channel m) = no_header
header_in (Body channel content) = no_header
header_in Beat = no_header
header_in (BadBeat channel) = no_header

-- the body bytes in a frame; other frames than bodies have none
abbrev pub bytes_of : Frame → List ℕ
bytes_of (Body channel content) = content
bytes_of (Proto major minor revision) = []
bytes_of (Meth channel m) = []
bytes_of (Head channel header) = []
bytes_of Beat = []
bytes_of (BadBeat channel) = []

-- the joined bytes of bodies
abbrev pub joined : List Frame → List ℕ
joined frames = flat_map bytes_of frames

-- the message that a frame ends, by what had begun before it
abbrev pub content_with : Begun Frame → Frame → Content
content_with Nothing frame =
    record { channel = channel_id_of frame; opening = method_in frame; properties = []; body = [] }
content_with (Opened opening) frame = record {
  channel = channel_id_of frame;
  opening = method_in opening;
  properties = (header_in frame).options;
  body = [];
}
content_with (Headed opening header bodies) frame = record {
  channel = channel_id_of frame;
  opening = method_in opening;
  properties = (header_in header).options;
  body = joined (bodies ++ frame ∷ []);
}
