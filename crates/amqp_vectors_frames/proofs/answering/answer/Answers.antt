-- `answer`: clause `refused`.
use Rattle.amqp_vectors_frames.proofs.Due.{answer_refused}
use Rattle.amqp_vectors_frames.proofs.answering.answer.Goals as goal

pub returns-clause-refused : goal.returns-clause-refused
returns-clause-refused c =
    answer_refused (Unit {0}) c.args.out.now.items c.gen_frame.new.out.items c.in-Err-gen_frame.error
    _ c.in-Some.reply c.answer_to.result c.answer_to.ensures c.in-Some.is c.in-Err-gen_frame.ensures
