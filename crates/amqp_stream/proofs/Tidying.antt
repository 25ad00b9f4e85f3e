-- Frames that are not tidy.
use Rattle.amqp_stream.proofs.Names.{◌≡◌, ℕ, Bool, false, Result, Ok, Fault, not_tidy, fault, Raw, Frame, decode_raw, is_at, judge_decoded, IsFaulty}
use Rattle.amqp_types.specs.Levels.{tidy}

untidy_at : (t : Bool) (read : Result Frame Fault) (f : Frame) (n : ℕ) → read ≡ Ok f → t ≡ false → judge_decoded t read n ≡ fault not_tidy
untidy_at t read f n e h = cc

-- a whole frame that is not tidy
pub is_untidy : (raw : Raw) (f : Frame) → decode_raw raw ≡ Ok f → is_at tidy raw ≡ false → IsFaulty tidy raw not_tidy
is_untidy raw f e h = record { judged_bad = λ n. untidy_at (is_at tidy raw) (decode_raw raw) f n e h; tidy_only = λ x. tt }
