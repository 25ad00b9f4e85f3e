-- What was taken and written of a stream of lines, from read to read.
use Rattle.amqp_lines.proofs
use proofs.Names.{◌≡◌, ◌≢◌, ℕ, ◌+◌, ◌-◌, ◌<◌, ◌≤◌, List, [], ◌∷◌, ◌++◌, length, take, Result, Ok, Err, refl, sym, ap, ◌∙◌, append_assoc, append-nil, arith}
use proofs.Names.{flat_map, length-take, take-append-le, IsBytes, Frame, canon_frames, SinkFault, ◌⇒◌, call_of, Call, Supply, Store, Gains, IsEmpty, WritesAll}
use proofs.Names.{Gathered, GatherFails, IsBytes-append, IsBytes-nil, Gains-then, Gains-none, Rises-later, line, lines, HasNoNewline, GathersLines, ReadsOnce}
use proofs.Names.{StopsWith, Decides, end_of_text, HoldsNewline, HasCauseUndumped, PassesLines, first_line, LinePlace, UndumpError, IsStrictWithin, lengths}
use proofs.Names.{Answer}
use proofs.Names.errors
use Rattle.amqp_stream.specs.Ends.{Takes}
use Rattle.amqp_stream.proofs.Adding.{Takes-then, Takes-none}
use Rattle.amqp_lines.specs.LineReading.{stopped}
use Rattle.amqp_lines.specs.Undumping.{read_size}
use Rattle.amqp_lines.specs.UndumpReports.{AreDecided, HasWrittenDecided}
use proofs.Newlines.{each_both}
use proofs.TextFronts.{AllStrict, all_strict, are_strict, none_take, holds_none, at_clean, is_longest, line_longer}
use proofs.Gathering.{lines_both, canon_both, longest_after, passes_none, passes_both}

-- ---- the frames in front of those of a call

written_after : (p all w : List ℕ) (r : Answer) → HasWrittenDecided all w r → HasWrittenDecided (p ++ all) (p ++ w) r
written_after p all w (Err errors.WriteFault) h = (h.0, cc (append_assoc p w h.0, h.1))
written_after p all w r h = ap (λ xs. p ++ xs) h

decided_after : (m : ℕ) (fs : List Frame) (text : List ℕ) (gs : List Frame) (rest : List ℕ) (r : Answer)
    → AllStrict m fs → AreDecided m text gs rest r → AreDecided m (lines fs ++ text) (fs ++ gs) rest r
decided_after m fs text gs rest (Err errors.WriteFault) good h = h
decided_after m fs text gs rest (Err errors.NoMemory) good h = h
decided_after m fs text gs rest r good h = longest_after fs good h

-- what was written whole is written in any case
all_written : {all w : List ℕ} (r : Answer) → w ≡ all → HasWrittenDecided all w r
all_written {w = w} (Err errors.WriteFault) h = ([], append-nil w ∙ h)
all_written r h = h

-- ---- newlines in front of the last read

-- no line begins there, where none of the bytes that were held is a newline
none_front : (m : ℕ) (held piece : List ℕ) (frames : List Frame) (rest : List ℕ) → HasNoNewline held → length piece ≤ read_size
    → held ++ piece ≡ lines frames ++ rest → HoldsNewline (take (length rest - read_size) rest) → ⊥
unfolding lines
none_front m held piece [] rest clean few e h =
    let n = length rest - read_size in
    let same =
    ap (take n) (sym e) ∙ take-append-le n held piece (omega (lengths, few, ap length e)) in
    holds_none _ (none_take n held clean) (rw same at h)
none_front m held piece (f ∷ fs) rest clean few e h =
    let more = flat_map line fs ++ rest in
    let low = line_longer f held piece more clean (e ∙ append_assoc (line f) _ rest) in
    omega (lengths, low, few, ap length e, ap length h.parts, length-take (length rest - read_size) rest)

-- ---- between two reads

-- What was taken is the lines of these frames and what is held, which begins at a place; all of their canonical bytes are written.
pub record Going (m budget left : ℕ) (a b : Supply) (k l : Store) (held : List ℕ) (at : LinePlace) : Type 0 where
  pub frames : List Frame
  pub good : AllStrict m frames
  pub clean : HasNoNewline held
  pub are_bytes : IsBytes (lines frames ++ held)
  pub takes : Takes a b (lines frames ++ held) (budget - left)
  pub gains : Gains k l (canon_frames frames)
  pub few : left ≤ budget
  pub falls : budget ≤ length (lines frames ++ held) + left
  pub passes : PassesLines frames first_line at

-- At the start nothing was taken, nothing was written, and nothing is held.
pub begins : {m budget : ℕ} (a : Supply) (k : Store) → Going m budget budget a a k k [] first_line
unfolding lines
begins {budget = budget} a k =
    let none : budget - budget ≡ 0 = omega arith in
    record {
      frames = [];
      good = tt;
      clean = tt;
      are_bytes = IsBytes-nil;
      takes = rw none (Takes-none a);
      gains = Gains-none k;
      few = omega arith;
      falls = omega arith;
      passes = passes_none first_line;
    }

-- nothing more has come, and what is held has no newline
clean_decided : (m : ℕ) (held : List ℕ) (r : Answer) → HasNoNewline held → AreDecided m (held ++ []) [] held r
unfolding lines
clean_decided m held (Err errors.WriteFault) none = none_front m held [] [] held none (omega arith) (append-nil held)
clean_decided m held (Err errors.NoMemory) none = none_front m held [] [] held none (omega arith) (append-nil held)
clean_decided m held r none = is_longest tt (append-nil held) (at_clean m held none)

nil_piece : (piece : List ℕ) → length piece ≡ 0 → piece ≡ []
nil_piece [] h = refl
nil_piece (x ∷ xs) h = absurd (omega arith)

-- why a call ends at the end of input, by what is held
end_cause : (call : Call Supply Store) (taken held : List ℕ) → HasNoNewline held → IsEmpty call.source.new.left
    → HasCauseUndumped call taken held (end_of_text held) × (end_of_text held ≢ Err errors.TurnsSpent)
end_cause call taken [] clean empty = ((refl, empty), λ e. absurd cc)
end_cause call taken (byte ∷ bytes) clean empty = (((λ e. absurd cc), holds_none _ clean, empty), λ e. absurd cc)

module _ {m budget left : ℕ} {a b : Supply} {k l : Store} {held : List ℕ} {at : LinePlace} (g : Going m budget left a b k l held at) where
  -- a call that ends after these bytes more, of which these frames were decided
  ended : (n : ℕ) (c : Supply) (l' : Store) (now : LinePlace)
      (piece : List ℕ) (frames : List Frame) (rest written : List ℕ) (r : Answer)
      → IsBytes piece → length piece ≤ read_size → Takes b c piece n → n ≤ left
      → AllStrict m frames → held ++ piece ≡ lines frames ++ rest → AreDecided m (held ++ piece) frames rest r
      → PassesLines frames at now → Gains l l' written → HasWrittenDecided (canon_frames frames) written r
      → HasCauseUndumped (call_of m budget (a ⇒ c) (k ⇒ l')) ((lines g.frames ++ held) ++ piece) rest r
      → (r ≡ Err errors.TurnsSpent → budget - left + n ≡ budget) → Decides (call_of m budget (a ⇒ c) (k ⇒ l')) now r
  ended n c l' now piece frames rest written r fits few takes some good parts decided passes gains writes cause all_spent =
      let whole = append_assoc (lines g.frames) held piece in
      record {
        taken = (lines g.frames ++ held) ++ piece;
        are_bytes = IsBytes-append (lines g.frames ++ held) piece g.are_bytes fits;
        reads = budget - left + n;
        takes = Takes-then _ _ _ _ _ _ _ g.takes takes;
        at_most = omega (arith, g.few, some);
        all_spent = all_spent;
        frames = g.frames ++ frames;
        are_strict = are_strict m (g.frames ++ frames) (each_both (IsStrictWithin m) g.frames frames g.good good);
        rest = rest;
        parts = rw (whole, parts, lines_both) (sym (append_assoc (lines g.frames) (lines frames) rest));
        decided = rw whole (decided_after m g.frames (held ++ piece) frames rest r g.good decided);
        written = canon_frames g.frames ++ written;
        gains = Gains-then _ _ _ _ _ g.gains gains;
        writes = rw canon_both (written_after (canon_frames g.frames) (canon_frames frames) written r writes);
        cause = cause;
        behind = record {
          before = lines g.frames ++ held;
          last = piece;
          parts = refl;
          few = few;
          frames = g.frames;
          rest = held;
          text = is_longest g.good refl (at_clean m held g.clean);
          no_line = holds_none held g.clean;
          written_begins = (written, refl);
        };
        passes = passes_both g.frames frames first_line at now g.passes passes;
      }

  -- a call that ends after no bytes more
  idle : (n : ℕ) (c : Supply) (r : Answer) → Takes b c [] n → n ≤ left
      → HasCauseUndumped (call_of m budget (a ⇒ c) (k ⇒ l)) ((lines g.frames ++ held) ++ []) held r
      → (r ≡ Err errors.TurnsSpent → budget - left + n ≡ budget) → Decides (call_of m budget (a ⇒ c) (k ⇒ l)) at r
  unfolding lines
  idle n c r takes some cause all_spent =
      ended n c l at [] [] held [] r IsBytes-nil (omega arith) takes some tt (append-nil held) (clean_decided m held r g.clean)
      (passes_none at) (Gains-none l) (all_written r refl) cause all_spent

  -- Where the read budget is spent, the call ends with that error.
  pub ends_spent : left ≡ 0 → Decides (call_of m budget (a ⇒ b) (k ⇒ l)) at (Err errors.TurnsSpent)
  ends_spent zero =
      idle 0 b _ (Takes-none b) (omega arith)
      (omega (lengths, g.falls, zero), holds_none held g.clean) (λ e. omega (arith, zero))

  -- Where a read fails, or nothing can be held, the call ends with that error.
  pub ends_at_read : {c : Supply} {before after : List ℕ} (error : UndumpError) → 0 < left → ReadsOnce b c before after (Err error)
      → Decides (call_of m budget (a ⇒ c) (k ⇒ l)) at (Err error)
  unfolding lines
  ends_at_read {c = c} errors.ReadFault some h =
      idle 1 c _ (rw h.reads.0 at h.takes) (omega (arith, some))
      (Rises-later a.faults b.faults c.faults g.takes.faults h.takes.faults h.reads.1, holds_none held g.clean) (λ e. absurd cc)
  ends_at_read {c = c} errors.NoMemory some h =
      let all = held ++ h.piece in
      ended 1 c l at h.piece [] all [] (Err errors.NoMemory) h.are_bytes h.few h.takes (omega (arith, some)) tt refl
      (none_front m held h.piece [] all g.clean h.few refl) (passes_none at) (Gains-none l) refl tt (λ e. absurd cc)
  ends_at_read error some h = absurd h.reads

  -- At the end of input the call ends well where nothing is held, and else with a line cut short.
  pub ends_at_end : {n : ℕ} {c : Supply} {after : List ℕ} {r : Answer} → 0 < left → ReadsOnce b c held after (Ok n)
      → n ≡ 0 → r ≡ end_of_text after → Decides (call_of m budget (a ⇒ c) (k ⇒ l)) at r
  ends_at_end {c = c} {after = after} some h zero is =
      let none = nil_piece h.piece (h.reads.1 ∙ zero) in
      let same : after ≡ held = cc (h.reads.0, none, append-nil held) in
      let end = end_cause (call_of m budget (a ⇒ c) (k ⇒ l)) ((lines g.frames ++ held) ++ []) held g.clean (h.reads.2 zero) in
      rw (is, same) (idle 1 c (end_of_text held) (rw none at h.takes) (omega (arith, some)) end.0 (λ e. absurd (end.1 e)))

-- ---- the end of input

-- ---- lines that are gathered after a read

module _ {m budget left n : ℕ} {a b c : Supply} {k l l' : Store} {held after pending : List ℕ} {at now : LinePlace} {found : Result ℕ UndumpError}
    (g : Going m budget left a b k l held at) (some : 0 < left) (read : ReadsOnce b c held after (Ok n))
    (h : GathersLines m after at now l l' [] pending found) where
  -- With one read more, the canonical bytes of its lines are written after those before, and what follows the last line is held.
  pub goes_on : {l'' : Store} {kept : List ℕ} {done : Unit {0}} → 0 < n → HasNoNewline h.rest → (w : Gathered l l' [] pending (canon_frames h.frames))
      → WritesAll l' l'' pending (Ok done) → kept ≡ h.rest → Going m budget (left - 1) a c k l'' kept now
  goes_on {l'' = l''} {kept = kept} new clean w f is =
      let all = lines g.frames ++ held in
      let same : all ++ read.piece ≡ lines (g.frames ++ h.frames) ++ kept =
      rw (lines_both, is) (append_assoc (lines g.frames) held read.piece ∙ ap (λ xs. lines g.frames ++ xs) (sym read.reads.0 ∙ h.parts)
      ∙ sym (append_assoc (lines g.frames) (lines h.frames) h.rest)) in
      let wrote : w.written ++ f.piece ≡ canon_frames h.frames = cc (f.ok, w.parts) in
      let reads : budget - (left - 1) ≡ budget - left + 1 = omega (arith, g.few, some) in
      record {
        frames = g.frames ++ h.frames;
        good = each_both (IsStrictWithin m) g.frames h.frames g.good (all_strict m h.frames h.are_strict);
        clean = rw is clean;
        are_bytes = rw (← same) (IsBytes-append all read.piece g.are_bytes read.are_bytes);
        takes = rw (reads, ← same) (Takes-then _ _ _ _ _ _ _ g.takes read.takes);
        gains =
            rw (canon_both, ← wrote) (Gains-then _ _ _ _ _ g.gains (Gains-then _ _ _ _ _ w.gains f.gains));
        few = omega (arith, g.few);
        falls = omega (lengths, g.falls, some, new, read.reads.1, ap length same);
        passes = passes_both g.frames h.frames first_line at now g.passes h.passes;
      }

  -- a call that ends with this result, which the lines of the read decide
  gathered_end : {l'' : Store} (r : Answer) (written : List ℕ)
      → ((HoldsNewline (take (length h.rest - read_size) h.rest) → ⊥) → AreDecided m after h.frames h.rest r)
      → Gains l l'' written → HasWrittenDecided (canon_frames h.frames) written r
      → HasCauseUndumped (call_of m budget (a ⇒ c) (k ⇒ l'')) ((lines g.frames ++ held) ++ read.piece) h.rest r
      → r ≢ Err errors.TurnsSpent → Decides (call_of m budget (a ⇒ c) (k ⇒ l'')) now r
  gathered_end {l'' = l''} r written decided gains writes cause other =
      let parts = sym read.reads.0 ∙ h.parts in
      ended g 1 c l'' now read.piece h.frames h.rest written r read.are_bytes read.few read.takes (omega (arith, some))
      (all_strict m h.frames h.are_strict) parts
      (rw read.reads.0 at (decided (none_front m held read.piece h.frames h.rest g.clean read.few parts))) h.passes gains writes cause (λ e. absurd (other e))

  -- Where the canonical bytes of lines cannot be written, the call ends with that error.
  pub unflushed : {l'' : Store} {bad : SinkFault} → Gathered l l' [] pending (canon_frames h.frames)
      → WritesAll l' l'' pending (Err bad) → Decides (call_of m budget (a ⇒ c) (k ⇒ l'')) now (Err errors.WriteFault)
  unflushed {l'' = l''} w f =
      let q = f.prefix.0 in
      let all = append_assoc w.written f.piece q ∙ ap (λ xs. w.written ++ xs) f.prefix.1 ∙ w.parts in
      gathered_end _ _ (λ none. none) (Gains-then _ _ _ _ _ w.gains f.gains) (q, all)
      (Rises-later k.faults l'.faults l''.faults (omega (arith, g.gains.faults, w.gains.faults)) f.gains.faults f.err) (λ e. absurd cc)

  -- a call that ends with this error after what is pending is written
  flushed : {l'' : Store} {done : Unit {0}} (error : UndumpError)
      → ((HoldsNewline (take (length h.rest - read_size) h.rest) → ⊥) → AreDecided m after h.frames h.rest (Err error))
      → Gathered l l' [] pending (canon_frames h.frames) → WritesAll l' l'' pending (Ok done)
      → HasCauseUndumped (call_of m budget (a ⇒ c) (k ⇒ l'')) ((lines g.frames ++ held) ++ read.piece) h.rest (Err error)
      → error ≢ errors.TurnsSpent → Decides (call_of m budget (a ⇒ c) (k ⇒ l'')) now (Err error)
  flushed {l'' = l''} error decided w f cause other =
      gathered_end (Err error) (w.written ++ f.piece) decided (Gains-then _ _ _ _ _ w.gains f.gains)
      (all_written (Err error) (ap (λ xs. w.written ++ xs) f.ok ∙ w.parts)) cause
      (λ e. absurd (other (let x : error ≡ errors.TurnsSpent = cc in x)))

  -- a write failed, and nothing was pending after it
  failed : {l'' : Store} (written : Result (Unit {0}) SinkFault) → GatherFails l l' [] pending (canon_frames h.frames)
      → WritesAll l' l'' pending written → Decides (call_of m budget (a ⇒ c) (k ⇒ l'')) now (Err errors.WriteFault)
  failed {l'' = l''} written w f =
      let none = nil_piece f.piece (omega (lengths, ap length (f.prefix.1 ∙ w.none))) in
      let all = ap (λ xs. (w.piece ++ xs) ++ w.prefix.0) none ∙ ap (λ xs. xs ++ w.prefix.0) (append-nil w.piece) ∙ w.prefix.1 in
      gathered_end _ _ (λ none. none) (Gains-then _ _ _ _ _ w.gains f.gains) (w.prefix.0, all)
      (λ low. omega (arith, g.gains.faults, f.gains.faults, Rises-later k.faults l.faults l'.faults g.gains.faults w.gains.faults w.rises low)) (λ e. absurd cc)

module _ {m budget left n : ℕ} {a b c : Supply} {k l l' l'' : Store} {held after pending : List ℕ} {at now : LinePlace}
    (g : Going m budget left a b k l held at) (some : 0 < left) (read : ReadsOnce b c held after (Ok n)) where
  -- lines that were not all gathered
  stop_by : (error : UndumpError) (written : Result (Unit {0}) SinkFault) → GathersLines m after at now l l' [] pending (Err error)
      → WritesAll l' l'' pending written → Decides (call_of m budget (a ⇒ c) (k ⇒ l'')) now (stopped error written)
  stop_by errors.BadText (Ok done) h f =
      flushed g some read h errors.BadText (λ none. h.gathers.0) h.gathers.2 f h.gathers.1 (λ e. absurd cc)
  stop_by errors.BadText (Err bad) h f = unflushed g some read h h.gathers.2 f
  stop_by errors.NoMemory (Ok done) h f = flushed g some read h errors.NoMemory (λ none. none) h.gathers f tt (λ e. absurd cc)
  stop_by errors.NoMemory (Err bad) h f = unflushed g some read h h.gathers f
  stop_by errors.WriteFault (Ok done) h f = failed g some read h (Ok done) h.gathers f
  stop_by errors.WriteFault (Err bad) h f = failed g some read h (Err bad) h.gathers f
  stop_by error written h f = absurd h.gathers

  -- Where a line is that of no frame, or memory runs out, the call ends with that error, after it wrote the lines before.
  pub ends_at_lines : {r : Answer} (error : UndumpError) → GathersLines m after at now l l' [] pending (Err error)
      → StopsWith l' l'' pending error r → Decides (call_of m budget (a ⇒ c) (k ⇒ l'')) now r
  ends_at_lines error h stop = rw stop.answer (stop_by error stop.written h stop.writes)

-- memory ran out before the first read
pub never_began : {m budget : ℕ} (a : Supply) (k : Store) → Decides (call_of m budget (a ⇒ a) (k ⇒ k)) first_line (Err errors.NoMemory)
never_began a k = idle (begins a k) 0 a _ (Takes-none a) (omega arith) tt (λ e. absurd cc)
