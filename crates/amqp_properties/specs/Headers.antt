-- Content headers as contracts see them.
use Rattle.amqp_types.specs.ContentHeaders.{ContentHeader}
use Rattle.amqp_properties.specs.Options.{options}
use Rattle.amqp_properties.specs.declared.content_header.AMQPContentHeader.{AMQPContentHeader}

-- a content header as contracts see it
abbrev pub header_of : AMQPContentHeader → ContentHeader
header_of header = record {
  class_id = header.class_id;
  body_size = header.body_size;
  options = options header.properties;
}
