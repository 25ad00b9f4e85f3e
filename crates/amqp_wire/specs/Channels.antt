-- Channels (AMQP 0-9-1, section 4.2.3): 0 is the connection itself.
use Rattle.std.specs.Prelude.{ℕ, ◌==◌, if◌then◌else◌}
use Rattle.amqp_types.specs.Judging.{Judge, took, ◌>>=◌}
use Rattle.amqp_types.specs.Numbers.{bytes2, judge_number}
use Rattle.amqp_wire.specs.declared.channel.AMQPChannel.{AMQPChannel}
use Rattle.amqp_wire.specs.declared.channel.AMQPChannel.TheVariants as channels

-- the channel that an id names
abbrev pub channel_of : ℕ → AMQPChannel
channel_of id = if id == 0 then channels.Global else channels.Id id

-- its number on the wire
abbrev pub channel_number : AMQPChannel → ℕ
channel_number channels.Global = 0
channel_number (channels.Id id) = id

-- a channel's number in two bytes, decoded
abbrev pub judge_channel : Judge AMQPChannel
judge_channel bytes = do
  id ← judge_number bytes2 bytes
  took (channel_of id.0) id.1
