-- `undump_reported`: what it ensures.
use Rattle.amqp_lines.proofs
use proofs.Names.{inl}
use proofs.Exactly.{undump_run, never_ran}
use proofs.LineReports.{reported, unreported, never_reported}
use proofs.undumping.undump_reported.Goals as goal

pub returns-in-Err : goal.returns-in-Err
returns-in-Err g c = record {
  run = unreported _ c.reported.ensures.answer never_ran;
  report =
      never_reported _ _ _ _ _ c.first-first.ensures
      c.reported.ensures.answer c.reported.ensures.line c.reported.ensures.place;
}

pub returns-in-Err-open : goal.returns-in-Err-open
returns-in-Err-open g c =
    let r = c.reported-in-Err-open in
    record {
      run = unreported r.result r.ensures.answer never_ran;
      report = never_reported _ _ _ _ r.result c.first-first.ensures r.ensures.answer r.ensures.line r.ensures.place;
    }

pub returns : goal.returns
returns g c =
    let r = c.reported-in-Ok-open in
    let run = c.run-answer.ensures in
    record {
      run = unreported r.result r.ensures.answer (undump_run run.stream run.unread run.unwritten (λ none. inl (run.spent none)));
      report = reported r.result r.ensures.answer r.ensures.line r.ensures.place run.stream;
    }
