-- The names of classes, methods, fields and properties: those of AMQP 0-9-1's reference of classes
-- and methods, with the class access of earlier versions, and the extensions as RabbitMQ has
-- written them (of `confirm.select` the flag is `nowait`).
use Rattle.std.specs.Prelude.{ℕ, List, [], ◌∷◌, map, codes}
use Rattle.amqp_names.specs.declared.naming.Follows.TheVariants as follows
use Rattle.amqp_names.specs.Naming.{ClassNames, MethodNames, class_row, method_row}

-- opening and closing a connection, and what both peers agree on
abbrev connection_methods : List MethodNames
connection_methods =
    method_row 10 "start" follows.Answer
    ("version-major" ∷ "version-minor" ∷ "server-properties" ∷ "mechanisms" ∷ "locales" ∷ []) ∷
    method_row 11 "start-ok" follows.Nothing
    ("client-properties" ∷ "mechanism" ∷ "response" ∷ "locale" ∷ []) ∷
    method_row 20 "secure" follows.Answer ("challenge" ∷ []) ∷
    method_row 21 "secure-ok" follows.Nothing ("response" ∷ []) ∷
    method_row 30 "tune" follows.Answer ("channel-max" ∷ "frame-max" ∷ "heartbeat" ∷ []) ∷
    method_row 31 "tune-ok" follows.Nothing ("channel-max" ∷ "frame-max" ∷ "heartbeat" ∷ []) ∷
    method_row 40 "open" follows.Answer ("virtual-host" ∷ []) ∷
    method_row 41 "open-ok" follows.Nothing [] ∷
    method_row 50 "close" follows.Answer
    ("reply-code" ∷ "reply-text" ∷ "class-id" ∷ "method-id" ∷ []) ∷
    method_row 51 "close-ok" follows.Nothing [] ∷
    method_row 60 "blocked" follows.Nothing ("reason" ∷ []) ∷
    method_row 61 "unblocked" follows.Nothing [] ∷
    method_row 70 "update-secret" follows.Answer ("new-secret" ∷ "reason" ∷ []) ∷
    method_row 71 "update-secret-ok" follows.Nothing [] ∷
    []

-- opening and closing a channel, and its flow of content
abbrev channel_methods : List MethodNames
channel_methods =
    method_row 10 "open" follows.Answer [] ∷
    method_row 11 "open-ok" follows.Nothing [] ∷
    method_row 20 "flow" follows.Answer ("active" ∷ []) ∷
    method_row 21 "flow-ok" follows.Nothing ("active" ∷ []) ∷
    method_row 40 "close" follows.Answer
    ("reply-code" ∷ "reply-text" ∷ "class-id" ∷ "method-id" ∷ []) ∷
    method_row 41 "close-ok" follows.Nothing [] ∷
    []

-- access to a realm, as earlier versions of the standard had it
abbrev access_methods : List MethodNames
access_methods =
    method_row 10 "request" follows.Answer
    ("realm" ∷ "exclusive" ∷ "passive" ∷ "active" ∷ "write" ∷ "read" ∷ []) ∷
    method_row 11 "request-ok" follows.Nothing [] ∷
    []

-- exchanges, and how they are bound to one another
abbrev exchange_methods : List MethodNames
exchange_methods =
    method_row 10 "declare" follows.Answer ("exchange" ∷ "type" ∷ "passive"
    ∷ "durable" ∷ "auto-delete" ∷ "internal" ∷ "no-wait" ∷ "arguments" ∷ []) ∷
    method_row 11 "declare-ok" follows.Nothing [] ∷
    method_row 20 "delete" follows.Answer ("exchange" ∷ "if-unused" ∷ "no-wait" ∷ []) ∷
    method_row 21 "delete-ok" follows.Nothing [] ∷
    method_row 30 "bind" follows.Answer
    ("destination" ∷ "source" ∷ "routing-key" ∷ "no-wait" ∷ "arguments" ∷ []) ∷
    method_row 31 "bind-ok" follows.Nothing [] ∷
    method_row 40 "unbind" follows.Answer
    ("destination" ∷ "source" ∷ "routing-key" ∷ "no-wait" ∷ "arguments" ∷ []) ∷
    method_row 51 "unbind-ok" follows.Nothing [] ∷
    []

-- queues, and how they are bound to exchanges
abbrev queue_methods : List MethodNames
queue_methods =
    method_row 10 "declare" follows.Answer
    ("queue" ∷ "passive" ∷ "durable" ∷ "exclusive" ∷ "auto-delete" ∷ "no-wait" ∷ "arguments" ∷ []) ∷
    method_row 11 "declare-ok" follows.Nothing ("queue" ∷ "message-count" ∷ "consumer-count" ∷ []) ∷
    method_row 20 "bind" follows.Answer
    ("queue" ∷ "exchange" ∷ "routing-key" ∷ "no-wait" ∷ "arguments" ∷ []) ∷
    method_row 21 "bind-ok" follows.Nothing [] ∷
    method_row 30 "purge" follows.Answer ("queue" ∷ "no-wait" ∷ []) ∷
    method_row 31 "purge-ok" follows.Nothing ("message-count" ∷ []) ∷
    method_row 40 "delete" follows.Answer ("queue" ∷ "if-unused" ∷ "if-empty" ∷ "no-wait" ∷ []) ∷
    method_row 41 "delete-ok" follows.Nothing ("message-count" ∷ []) ∷
    method_row 50 "unbind" follows.Answer ("queue" ∷ "exchange" ∷ "routing-key" ∷ "arguments" ∷ [])
    ∷
    method_row 51 "unbind-ok" follows.Nothing [] ∷
    []

-- sending messages, and receiving and acknowledging them
abbrev basic_methods : List MethodNames
basic_methods =
    method_row 10 "qos" follows.Answer ("prefetch-count" ∷ "global" ∷ []) ∷
    method_row 11 "qos-ok" follows.Nothing [] ∷
    method_row 20 "consume" follows.Answer ("queue" ∷ "consumer-tag"
    ∷ "no-local" ∷ "no-ack" ∷ "exclusive" ∷ "no-wait" ∷ "arguments" ∷ []) ∷
    method_row 21 "consume-ok" follows.Nothing ("consumer-tag" ∷ []) ∷
    method_row 30 "cancel" follows.Answer ("consumer-tag" ∷ "no-wait" ∷ []) ∷
    method_row 31 "cancel-ok" follows.Nothing ("consumer-tag" ∷ []) ∷
    method_row 40 "publish" follows.Content
    ("exchange" ∷ "routing-key" ∷ "mandatory" ∷ "immediate" ∷ []) ∷
    method_row 50 "return" follows.Content
    ("reply-code" ∷ "reply-text" ∷ "exchange" ∷ "routing-key" ∷ []) ∷
    method_row 60 "deliver" follows.Content
    ("consumer-tag" ∷ "delivery-tag" ∷ "redelivered" ∷ "exchange" ∷ "routing-key" ∷ []) ∷
    method_row 70 "get" follows.Answer ("queue" ∷ "no-ack" ∷ []) ∷
    method_row 71 "get-ok" follows.Content
    ("delivery-tag" ∷ "redelivered" ∷ "exchange" ∷ "routing-key" ∷ "message-count" ∷ []) ∷
    method_row 72 "get-empty" follows.Nothing [] ∷
    method_row 80 "ack" follows.Nothing ("delivery-tag" ∷ "multiple" ∷ []) ∷
    method_row 90 "reject" follows.Nothing ("delivery-tag" ∷ "requeue" ∷ []) ∷
    method_row 100 "recover-async" follows.Nothing ("requeue" ∷ []) ∷
    method_row 110 "recover" follows.Answer ("requeue" ∷ []) ∷
    method_row 111 "recover-ok" follows.Nothing [] ∷
    method_row 120 "nack" follows.Nothing ("delivery-tag" ∷ "multiple" ∷ "requeue" ∷ []) ∷
    []

-- confirms of what was published
abbrev confirm_methods : List MethodNames
confirm_methods =
    method_row 10 "select" follows.Answer ("nowait" ∷ []) ∷
    method_row 11 "select-ok" follows.Nothing [] ∷
    []

-- transactions
abbrev tx_methods : List MethodNames
tx_methods =
    method_row 10 "select" follows.Answer [] ∷
    method_row 11 "select-ok" follows.Nothing [] ∷
    method_row 20 "commit" follows.Answer [] ∷
    method_row 21 "commit-ok" follows.Nothing [] ∷
    method_row 30 "rollback" follows.Answer [] ∷
    method_row 31 "rollback-ok" follows.Nothing [] ∷
    []

-- the classes, by ascending ids
abbrev pub class_names : List ClassNames
class_names =
    class_row 10 "connection" connection_methods ∷
    class_row 20 "channel" channel_methods ∷
    class_row 30 "access" access_methods ∷
    class_row 40 "exchange" exchange_methods ∷
    class_row 50 "queue" queue_methods ∷
    class_row 60 "basic" basic_methods ∷
    class_row 85 "confirm" confirm_methods ∷
    class_row 90 "tx" tx_methods ∷
    []

-- the properties of a message, in the order in which they stand; the last is reserved in 0-9-1, and
-- has its name from earlier versions
abbrev pub property_names : List (List ℕ)
property_names =
    map codes
    ("content-type" ∷ "content-encoding" ∷ "headers" ∷ "delivery-mode" ∷ "priority" ∷
    "correlation-id" ∷ "reply-to" ∷ "expiration" ∷ "message-id" ∷ "timestamp" ∷
    "type" ∷ "user-id" ∷ "app-id" ∷ "cluster-id" ∷ [])
