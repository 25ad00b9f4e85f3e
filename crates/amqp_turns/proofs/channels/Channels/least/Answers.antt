-- `Channels::least`: what it ensures where an entry lies apart, and there are others.
use Rattle.amqp_turns.proofs.LastEntry.{lesser_some, lesser_least}
use Rattle.amqp_turns.proofs.channels.Channels.least.Goals as goal

pub returns-in-Some-other-clause-kept : goal.returns-in-Some-other-clause-kept
returns-in-Some-other-clause-kept g c =
    lesser_some _ _ _ c.self.view_is c.in-Some.entry c.in-Some-other.other c.min.result
    c.in-Some.is c.in-Some-other.ensures.kept c.min.ensures

pub returns-in-Some-other-clause-least : goal.returns-in-Some-other-clause-least
returns-in-Some-other-clause-least g c =
    lesser_least _ _ _ c.self.view_is c.in-Some.entry c.in-Some-other.other c.min.result
    c.in-Some.is c.in-Some-other.ensures.least c.min.ensures
