-- `counted`: the first class has the method, or the others have it.
use Rattle.std.proofs.Common.{◌∙◌, refl, sym}
use Rattle.amqp_names.specs.Tables.{class_names_of, kinds_of, known_kinds, method_kinds, method_names, methods_of}
use Rattle.amqp_names.proofs.Found.{counted_first, counted_later, got}
use Rattle.amqp_names.proofs.methods.+counted.Goals as goal

pub returns-in-Some-clause-names : goal.returns-in-Some-clause-names
returns-in-Some-clause-names t c =
    counted_first method_names class_names_of methods_of (λ class. refl) c.args.classes.now _ c.args.k c.in-Some.method c.in-len1-up.len_at_least
    (sym (got _ c.args.k c.get.result c.get.ensures.lookup.0 c.get.ensures.lookup.1) ∙ (sym c.copied-found.ensures ∙ c.in-Some.is))

pub returns-in-Some-clause-kinds : goal.returns-in-Some-clause-kinds
returns-in-Some-clause-kinds t c =
    counted_first (λ m. (m.id, method_kinds m)) known_kinds kinds_of (λ class. refl) c.args.classes.now _ c.args.k c.in-Some.method c.in-len1-up.len_at_least
    (sym (got _ c.args.k c.get.result c.get.ensures.lookup.0 c.get.ensures.lookup.1) ∙ (sym c.copied-found.ensures ∙ c.in-Some.is))

pub returns-in-None-clause-names : goal.returns-in-None-clause-names
returns-in-None-clause-names t c =
    counted_later method_names class_names_of methods_of (λ class. refl) c.args.classes.now _ c.args.k _ c.in-len1-up.len_at_least
    (sym (got _ c.args.k c.get.result c.get.ensures.lookup.0 c.get.ensures.lookup.1) ∙ (sym c.copied-found.ensures ∙ c.in-None.is)) c.counted.ensures.names

pub returns-in-None-clause-kinds : goal.returns-in-None-clause-kinds
returns-in-None-clause-kinds t c =
    counted_later (λ m. (m.id, method_kinds m)) known_kinds kinds_of (λ class. refl) c.args.classes.now _ c.args.k _ c.in-len1-up.len_at_least
    (sym (got _ c.args.k c.get.result c.get.ensures.lookup.0 c.get.ensures.lookup.1) ∙ (sym c.copied-found.ensures ∙ c.in-None.is)) c.counted.ensures.kinds
