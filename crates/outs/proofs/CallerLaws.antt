-- For callers: bytes that code a strip do so after every event, and hold the strip that the definition says.
use Rattle.std.specs.Prelude.{ℕ, ◌<◌, ◌≡◌, refl, Bool, true, false, cond, List, [], ◌∷◌, eqb, length}
use Rattle.std.proofs.Common.{◌∙◌, ap, eqb-true, eq-eqb}
use Rattle.outs.specs.Outs.{Side, one, two, What, out, revive, Event, Strip, empty, out_on, refusal_on, refusal_for, changed, with_side, accepted, took, after, is_name, in_range, what_of, event_of, given_took}
use Rattle.outs.proofs.OutsLaws.{accepted_on}
use Rattle.outs.specs.KeepLaws.{changed-seven}
use Rattle.outs.specs.Coding.{strip_bytes, code_of, strip_of, is_strip, new_leaves, event_leaves}
use Rattle.outs.specs.SideLaws.{SideFits, names_append, names_drop}
use Rattle.outs.specs.CodingLaws.{StripFits, strip-fits, code-strip, code_is_strip, empty-fits}
use Rattle.outs.specs.StripTests.{some_fits}
use Rattle.outs.proofs.TakeExits.{range_name}

-- what goes out has a name of 1 to 64 bytes
pub data WhatFits : What → Type 0 where
  goes : {name : List ℕ} → is_name name ≡ true → WhatFits (out name)
  comes : WhatFits revive

-- an event whose number has 64 bits, and whose name, where it goes out, has 1 to 64 bytes
pub record EventFits (e : Event) : Type 0 where
  pub number : e.number < 18446744073709551616
  pub what : WhatFits e.what

-- every event does
pub data EventsFit : List Event → Type 0 where
  none : EventsFit []
  more : {e : Event} {es : List Event} → EventFits e → EventsFit es → EventsFit (e ∷ es)

-- a side that fits does so after an accepted event
changed-fits : (l : List (List ℕ)) (w : What) → SideFits l → WhatFits w → refusal_on l w ≡ 0 → SideFits (changed l w)
changed-fits l (out name) f (goes g) z =
    record { seven = changed-seven l (out name) f.seven z; named = names_append l name f.named g }
changed-fits l revive f comes z =
    record { seven = changed-seven l revive f.seven z; named = names_drop l f.named }

pub took-fits : (s : Strip) (e : Event) → StripFits s → EventFits e → StripFits (took s e)
unfolding took accepted
took-fits s e f g = go (eqb (refusal_for s e) 0) refl
  where
    side : (c : Side) (w : What) → WhatFits w → refusal_on (out_on s c) w ≡ 0 → StripFits (with_side s c (changed (out_on s c) w) e.number)
    side one w k z = record { number = some_fits e.number g.number; one = changed-fits s.first w f.one k z; two = f.two }
    side two w k z = record { number = some_fits e.number g.number; one = f.one; two = changed-fits s.second w f.two k z }

    go : (b : Bool) → eqb (refusal_for s e) 0 ≡ b → StripFits (cond b (with_side s e.side (changed (out_on s e.side) e.what) e.number) s)
    go true q = side e.side e.what g.what (accepted_on s e (eqb-true (refusal_for s e) 0 q))
    go false q = f

pub after-fits : (s : Strip) (es : List Event) → StripFits s → EventsFit es → StripFits (after s es)
unfolding after
after-fits s [] f none = f
after-fits s (e ∷ es) f (more g gs) = after-fits (took s e) es (took-fits s e f g) gs

-- a row's four values
what_fits : (e : ℕ) (name : List ℕ) → is_name name ≡ true → WhatFits (what_of e name)
unfolding what_of
what_fits e name h = go (eqb e 1)
  where
    go : (b : Bool) → WhatFits (cond b (out name) revive)
    go true = goes h
    go false = comes

pub given-fits : (s : Strip) (n d e : ℕ) (name : List ℕ) → StripFits s → n < 18446744073709551616 → StripFits (given_took s n d e name)
unfolding given_took
given-fits s n d e name f h = go (in_range d e name) refl
  where
    go : (b : Bool) → in_range d e name ≡ b → StripFits (cond b (took s (event_of n d e name)) s)
    go true q = took-fits s (event_of n d e name) f (record { number = h; what = what_fits e name (range_name d e name refl q) })
    go false q = f

-- ---- the bytes

module _ (b : List ℕ) (n d e : ℕ) (name : List ℕ) (h : is_strip b ≡ true) (k : n < 18446744073709551616) where
  pub took-strip : is_strip (code_of (given_took (strip_of b) n d e name)) ≡ true
  took-strip = code_is_strip (given_took (strip_of b) n d e name) (given-fits (strip_of b) n d e name (strip-fits b h) k)

  pub took_round : strip_of (code_of (given_took (strip_of b) n d e name)) ≡ given_took (strip_of b) n d e name
  took_round = code-strip (given_took (strip_of b) n d e name) (given-fits (strip_of b) n d e name (strip-fits b h) k)

  pub event_strip : is_strip (event_leaves b n d e name) ≡ true
  unfolding event_leaves
  event_strip = rw h took-strip

  pub event_round : strip_of (event_leaves b n d e name) ≡ given_took (strip_of b) n d e name
  unfolding event_leaves
  event_round = rw h took_round

module _ (b : List ℕ) (h : length b ≡ strip_bytes) where
  new_is : new_leaves b ≡ code_of empty
  unfolding new_leaves
  new_is = rw (eq-eqb (length b) strip_bytes h)

  pub new-strip : is_strip (new_leaves b) ≡ true
  new-strip = ap is_strip new_is ∙ code_is_strip empty empty-fits

  pub new_round : strip_of (new_leaves b) ≡ empty
  new_round = ap strip_of new_is ∙ code-strip empty empty-fits
