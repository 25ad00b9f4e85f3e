-- `write_line`: what it ensures.
use Rattle.amqp_lines.proofs
use proofs.Names.{List, ◌∷◌, [], ◌++◌, ℕ, ap, ◌∙◌, append_assoc, line, words}
use proofs.lines.write_line.Goals as goal

pub returns : goal.returns
unfolding line
returns c = λ frame is.
    c.in_ok-push.ensures.items ∙ ap (λ (xs : List ℕ). xs ++ 10 ∷ []) (c.in_ok-write_words.ensures frame is)
    ∙ append_assoc _ (words frame) (10 ∷ [])
