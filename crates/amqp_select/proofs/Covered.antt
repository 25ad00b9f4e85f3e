-- A rule that an earlier one covers is never the first to match.
use Rattle.std.proofs.Common.{◌≡◌, ℕ, ◌+◌, Bool, true, false, ◌&&◌, List, [], ◌∷◌, ◌++◌, length, Option, Some, None, refl, sym, ap, ap₂, ◌∙◌, cond, arith}
use Rattle.std.specs.Prelude.{nat_lt, ◌==◌, find, filter, slice_get, is_none, if◌then◌else◌}
use Rattle.std.specs.List.{filter_map, cons_option, enumerate_from, position_or_len}
use Rattle.std.proofs.Math.Seq.{take-append_seam}
use Rattle.std.proofs.lemmas.Bool.Decides.{nat_tests}
use Rattle.std.proofs.lemmas.List.{append_assoc, length-append}
use Rattle.amqp_wire.specs.declared.frame_type.AMQPFrameType.{AMQPFrameType}
use Rattle.amqp_wire.specs.declared.frame_type.AMQPFrameType.TheVariants as kinds
use Rattle.amqp_wire.specs.declared.outline.FrameOutline.{FrameOutline}
use Rattle.amqp_wire.specs.Frames.{Frame}
use Rattle.amqp_wire.specs.Outlines.{outline_channel, outline_of}
use Rattle.amqp_select.specs.declared.rule.Span.{Span}
use Rattle.amqp_select.specs.declared.rule.Span.TheVariants as spans
use Rattle.amqp_select.specs.declared.rule.Rule.{Rule}
use Rattle.amqp_select.specs.Matching.{contains, is_of_kind, has_class, has_method, holds, matches, first_match, keeps, decides, kept}
use Rattle.amqp_select.specs.Covering.{includes, is_same_kind, stands, covers, covered, uncovered_at, uncovered}

-- ---- what a covered rule matches the covering one does

record Both (a b : Bool) : Type 0 where
  first : a ≡ true
  second : b ≡ true

both : (a b : Bool) → (a && b) ≡ true → Both a b
both true b e = record { first = refl; second = e }
both false b e = absurd cc

also : (a b : Bool) → a ≡ true → b ≡ true → (a && b) ≡ true
also true b e f = f
also false b e f = absurd cc

inside : (a b : Span) (channel : ℕ) → includes a b ≡ true → contains b channel ≡ true → contains a channel ≡ true
inside (spans.One a) (spans.One b) channel e f = grind (arith, nat_tests)
inside (spans.One a) (spans.Range b c) channel e f = grind (arith, nat_tests)
inside (spans.Range a b) (spans.One c) channel e f = grind (arith, nat_tests)
inside (spans.Range a b) (spans.Range c d) channel e f = grind (arith, nat_tests)

same_kind : (a b : AMQPFrameType) (outline : FrameOutline) → is_same_kind a b ≡ true → is_of_kind b outline ≡ true → is_of_kind a outline ≡ true
same_kind kinds.ProtocolHeader kinds.ProtocolHeader outline e f = f
same_kind kinds.Method kinds.Method outline e f = f
same_kind kinds.Header kinds.Header outline e f = f
same_kind kinds.Body kinds.Body outline e f = f
same_kind kinds.Heartbeat kinds.Heartbeat outline e f = f
same_kind a b outline e f = absurd cc

same_id : (a b : ℕ) (test : ℕ → Bool) → (a == b) ≡ true → test b ≡ true → test a ≡ true
same_id a b test e f = let same : a ≡ b = grind (arith, nat_tests) in ap test same ∙ f

part_holds : {A : Type 0} (same : A → A → Bool) (test : A → Bool) (j k : Option A)
    → ((a b : A) → same a b ≡ true → test b ≡ true → test a ≡ true) → stands same j k ≡ true → holds test k ≡ true → holds test j ≡ true
part_holds same test None k h e f = refl
part_holds same test (Some a) None h e f = absurd cc
part_holds same test (Some a) (Some b) h e f = h a b e f

pub covers_matches : (j k : Rule) (outline : FrameOutline) → covers j k ≡ true → matches k outline ≡ true → matches j outline ≡ true
covers_matches j k outline e f =
    let c3 = both _ _ e in let c2 = both _ _ c3.first in let c1 = both _ _ c2.first in
    let m3 = both _ _ f in let m2 = both _ _ m3.first in let m1 = both _ _ m2.first in
    also _ _ (also _ _ (also _ _
    (part_holds includes (λ span. contains span (outline_channel outline)) j.channel k.channel (λ a b. inside a b (outline_channel outline)) c1.first m1.first)
    (part_holds is_same_kind (λ kind. is_of_kind kind outline) j.kind k.kind (λ a b. same_kind a b outline) c1.second m1.second))
    (part_holds (λ a b. a == b) (λ id. has_class id outline) j.class_id k.class_id (λ a b. same_id a b (λ id. has_class id outline)) c2.second m2.second))
    (part_holds (λ a b. a == b) (λ id. has_method id outline) j.method_id k.method_id (λ a b. same_id a b (λ id. has_method id outline)) c3.second m3.second)

-- ---- the first rule that matches is uncovered

-- none of the rules matches
abbrev Miss : List Rule → FrameOutline → Type 0
Miss [] outline = Unit {0}
Miss (rule ∷ rules) outline = (matches rule outline ≡ false) × Miss rules outline

Miss-push : (rules : List Rule) (rule : Rule) (outline : FrameOutline) → Miss rules outline → matches rule outline ≡ false → Miss (rules ++ rule ∷ []) outline
Miss-push [] rule outline none miss = (miss, tt)
Miss-push (r ∷ rules) rule outline none miss = (none.0, Miss-push rules rule outline none.1 miss)

clash : (b : Bool) → b ≡ true → b ≡ false → ⊥
clash true e f = cc
clash false e f = cc

not_covering : (r rule : Rule) (outline : FrameOutline) (b : Bool) → covers r rule ≡ b → matches r outline ≡ false → matches rule outline ≡ true → b ≡ false
not_covering r rule outline false is miss e = refl
not_covering r rule outline true is miss e = absurd (clash (matches r outline) (covers_matches r rule outline is e) miss)

-- where none of the rules matches, none covers a rule that does
none_covers : (rules : List Rule) (rule : Rule) (outline : FrameOutline) → Miss rules outline
    → matches rule outline ≡ true → position_or_len (λ earlier. covers earlier rule) rules ≡ length rules
none_covers [] rule outline none e = refl
none_covers (r ∷ rules) rule outline none e =
    let more = none_covers rules rule outline none.1 e in
    rw (not_covering r rule outline (covers r rule) refl none.0 e) (omega (arith, more))

slice_get_seam : (earlier rest : List Rule) (rule : Rule) → slice_get (earlier ++ rule ∷ rest) (length earlier) ≡ Some rule
slice_get_seam [] rest rule = refl
slice_get_seam (r ∷ earlier) rest rule = slice_get_seam earlier rest rule

not_below : (n : ℕ) → nat_lt n n ≡ false
not_below n = grind (arith, nat_tests)

first_uncovered : (earlier rest : List Rule) (rule : Rule) (outline : FrameOutline) → Miss earlier outline
    → matches rule outline ≡ true → covered (earlier ++ rule ∷ rest) (length earlier) ≡ None
first_uncovered earlier rest rule outline none e =
    rw (slice_get_seam earlier rest rule)
    (rw (take-append_seam earlier (rule ∷ rest))
    (rw (none_covers earlier rule outline none e)
    (rw (not_below (length earlier)) refl)))

skipped : (b : Bool) (rule : Rule) (rest : List Rule) (test : Rule → Bool) → test rule ≡ false
    → find test (cons_option (if b then Some rule else None) rest) ≡ find test rest
skipped true rule rest test e = rw e refl
skipped false rule rest test e = refl

first_step : (rules earlier rest : List Rule) (rule : Rule) (n : ℕ) (outline : FrameOutline) (b : Bool)
    → rules ≡ earlier ++ rule ∷ rest → n ≡ length earlier → Miss earlier outline → matches rule outline ≡ b
    → (b ≡ false → first_match (filter_map (uncovered_at rules) (enumerate_from (n + 1) rest)) outline ≡ first_match rest outline)
    → first_match (filter_map (uncovered_at rules) (enumerate_from n (rule ∷ rest))) outline ≡ first_match (rule ∷ rest) outline
first_step rules earlier rest rule n outline true are place none is more =
    let uncovered_here : covered rules n ≡ None = ap₂ covered are place ∙ first_uncovered earlier rest rule outline none is in
    rw uncovered_here (rw is refl)
first_step rules earlier rest rule n outline false are place none is more =
    skipped (is_none (covered rules n)) rule (filter_map (uncovered_at rules) (enumerate_from (n + 1) rest)) (λ rule. matches rule outline) is
    ∙ more refl ∙ (rw is refl)

first_same : (rules earlier rest : List Rule) (n : ℕ) (outline : FrameOutline) → rules ≡ earlier ++ rest → n ≡ length earlier
    → Miss earlier outline → first_match (filter_map (uncovered_at rules) (enumerate_from n rest)) outline ≡ first_match rest outline
first_same rules earlier [] n outline are place none = refl
first_same rules earlier (rule ∷ rest) n outline are place none =
    first_step rules earlier rest rule n outline (matches rule outline) are place none refl (λ miss.
    first_same rules (earlier ++ rule ∷ []) rest (n + 1) outline
    (are ∙ sym (append_assoc earlier (rule ∷ []) rest))
    (omega (arith, length-append earlier (rule ∷ [])))
    (Miss-push earlier rule outline none miss))

-- Rules without those that an earlier one covers decide of each frame as all rules do.
pub decides_same : (rules : List Rule) (outline : FrameOutline) → decides (uncovered rules) outline ≡ decides rules outline
decides_same rules outline = ap keeps (first_same rules [] rules 0 outline refl refl tt)

filter_same : {A : Type 0} (p q : A → Bool) (xs : List A) → ((x : A) → p x ≡ q x) → filter p xs ≡ filter q xs
filter_same p q [] same = refl
filter_same p q (x ∷ xs) same = ap₂ (λ b rest. cond b (x ∷ rest) rest) (same x) (filter_same p q xs same)

-- Rules without those that an earlier one covers keep the same frames.
pub kept_same : (rules : List Rule) (frames : List Frame) → kept (uncovered rules) frames ≡ kept rules frames
kept_same rules frames = filter_same _ _ frames (λ frame. decides_same rules (outline_of frame))
