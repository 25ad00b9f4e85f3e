-- What writers decide of frames, and what is put for those that they keep.
use Rattle.amqp_stream.proofs
use proofs.Names.{◌≡◌, ℕ, List, ◌++◌, true, Result, Ok, IsTrue, Fault, FrameJudgement, Raw, Frame, IsJudged, decode_raw, is_at, canon, Decision, Adds, IsKept}
use proofs.Names.{Store, Manner, Writes}
use Rattle.amqp_stream.specs.Decisions.{IsDecided, PutsDecided, TakesTo}
use proofs.Writes.{kept, pushed}
use proofs.Names.decisions

-- a frame of which the canonical bytes are written
pub kept_by : {S E : Type 0} {w : Manner S E} {s t : S} {raw : Raw} {judged : FrameJudgement} → (h : IsJudged raw judged)
    → ((f : Frame) → w.step s f ≡ Ok (canon f, t)) → is_at w.level raw ≡ true → IsTrue w.compact → IsKept w s t raw judged
kept_by h steps at compact =
    record { is_judged = h; step = record { frame = h.frame; is_whole = h.is; at_level = at; steps = steps h.frame }; compact = compact }

-- what was put for a frame is its canonical bytes
pub adds_same : (before after : List ℕ) (read : Result Frame Fault) (f : Frame) → Adds before after read (Ok tt) → read ≡ Ok f → after ≡ before ++ canon f
adds_same before after read f h is = cc (h.1, h.2)

-- ---- what is put for a frame that was taken

-- A writer that decided of a frame by itself is compact.
pub takes_compact : {S E : Type 0} (w : Manner S E) (s t : S) (raw : Raw) (decision : Decision) → TakesTo w s t raw decision → IsTrue w.compact
takes_compact w s t raw (decisions.Kept judged) h = h.compact
takes_compact w s t raw decisions.Dropped h = h.compact

-- What was decided of a frame that was taken is what `put_decided` requires of a decision.
pub takes_decided : {S E : Type 0} (w : Manner S E) (s t : S) (raw : Raw) (decision : Decision) → TakesTo w s t raw decision → IsDecided raw decision
takes_decided w s t raw (decisions.Kept judged) h = h.is_judged
takes_decided w s t raw decisions.Dropped h = tt

-- what was put is what the step gives
pub decided_writes : {S E : Type 0} {w : Manner S E} {s t : S} {raw : Raw} {before after : List ℕ} (store : Store) (decision : Decision)
    → TakesTo w s t raw decision → PutsDecided raw before after decision → Writes w s t raw store store before after
decided_writes {raw = raw} {before = before} {after = after} store (decisions.Kept judged) h put =
    search (pushed store before after (canon h.is_judged.frame) tt (adds_same before after (decode_raw raw) h.is_judged.frame put h.is_judged.is))
decided_writes {before = before} {after = after} store decisions.Dropped h put = search (kept store before after put)
