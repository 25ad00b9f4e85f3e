-- `Codec::rewrite_reported`: clauses `run` and `memory`.
use Rattle.amqp_stream.proofs
use proofs.Names.{canon_frames}
use proofs.Transcribing.{canonical, transcribes, never_out_of_memory}
use proofs.Runs.{canonical_run}
use proofs.Reporting.{unreported_as_run, report_at}
use proofs.codec.Codec.rewrite_reported.Goals as goal

pub returns-in-Plain-clause-run : goal.returns-in-Plain-clause-run
returns-in-Plain-clause-run g c = rw c.in-Plain.is (
  canonical_run canonical (rw (c.unrefused_report.ensures, unreported_as_run) at c.run_reported.ensures.run.0),
  report_at canonical _ _ c.unrefused_report.result (rw c.unrefused_report.ensures at c.run_reported.ensures.run.1),
)

pub returns-in-Plain-clause-memory : goal.returns-in-Plain-clause-memory
returns-in-Plain-clause-memory g c =
    never_out_of_memory canon_frames (transcribes canonical _ (rw (c.unrefused_report.ensures, unreported_as_run) at c.run_reported.ensures.run.0.stream.run))

pub returns-in-Tidy-clause-run : goal.returns-in-Tidy-clause-run
returns-in-Tidy-clause-run g c = rw c.in-Tidy.is (
  canonical_run canonical (rw (c.unrefused_report-in-Tidy.ensures, unreported_as_run) at c.run_reported-in-Tidy.ensures.run.0),
  report_at canonical _ _ c.unrefused_report-in-Tidy.result (rw c.unrefused_report-in-Tidy.ensures at c.run_reported-in-Tidy.ensures.run.1),
)

pub returns-in-Tidy-clause-memory : goal.returns-in-Tidy-clause-memory
returns-in-Tidy-clause-memory g c =
    never_out_of_memory canon_frames
    (transcribes canonical _ (rw (c.unrefused_report-in-Tidy.ensures, unreported_as_run) at c.run_reported-in-Tidy.ensures.run.0.stream.run))
