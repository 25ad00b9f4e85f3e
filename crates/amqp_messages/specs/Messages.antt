-- Messages as callers see them. What speaks of no typed method is passed on.
use Rattle.std.specs.Prelude.{ℕ, List}
use Rattle.amqp_types.specs.Methods.{Method}
use Rattle.amqp_properties.specs.declared.properties.AMQPProperties.{AMQPProperties}
use Rattle.amqp_properties.specs.Options.{options}
use Rattle.amqp_basic.specs.Basic.{publish_method, return_method, deliver_method, get_ok_method}
pub use Rattle.amqp_turns.specs.Messages.{Content, method_in, header_in}
pub use Rattle.amqp_turns.specs.Messages.{bytes_of, joined, content_with}
use Rattle.amqp_messages.specs.declared.opening.Opening.{Opening}
use Rattle.amqp_messages.specs.declared.opening.Opening.TheVariants as openings

-- a message as callers see it: its four parts
pub record Parts : Type 0 where
  pub channel : ℕ
  pub opening : Opening
  pub properties : AMQPProperties
  pub body : List ℕ

-- the method that opens a message
abbrev pub opening_method : Opening → Method
opening_method (openings.Publish m) = publish_method m
opening_method (openings.Return m) = return_method m
opening_method (openings.Deliver m) = deliver_method m
opening_method (openings.GetOk m) = get_ok_method m

-- the exchange that the message is published to, or was; the empty one is the default exchange
abbrev pub opening_exchange : Opening → List ℕ
opening_exchange (openings.Publish m) = m.exchange
opening_exchange (openings.Return m) = m.exchange
opening_exchange (openings.Deliver m) = m.exchange
opening_exchange (openings.GetOk m) = m.exchange

-- the routing key that it is published with
abbrev pub opening_routing_key : Opening → List ℕ
opening_routing_key (openings.Publish m) = m.routing_key
opening_routing_key (openings.Return m) = m.routing_key
opening_routing_key (openings.Deliver m) = m.routing_key
opening_routing_key (openings.GetOk m) = m.routing_key

-- the content of a message as callers see it
abbrev pub content_of : Parts → Content
content_of message = record {
  channel = message.channel;
  opening = opening_method message.opening;
  properties = options message.properties;
  body = message.body;
}
