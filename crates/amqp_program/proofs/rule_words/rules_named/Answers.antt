-- `rules_named`: clause `refused` where memory runs out.
use Rattle.amqp_program.proofs.RuleParts.{no_memory_at, refused_memory}
use Rattle.amqp_program.proofs.rule_words.rules_named.Goals as goal

pub returns-in-Err-NoMemory-clause-refused : goal.returns-in-Err-NoMemory-clause-refused
returns-in-Err-NoMemory-clause-refused c =
    let read = rw c.in-Err-NoMemory.field-0-is at c.in-Err-NoMemory.ensures in refused_memory _ read

pub returns-clause-refused : goal.returns-clause-refused
returns-clause-refused c = no_memory_at _ _ c.in-Ok.ensures
