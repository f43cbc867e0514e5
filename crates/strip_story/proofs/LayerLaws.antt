-- Both layers are lawful: a call there is the step of the definitions, and a refused one changes nothing.
use Rattle.std.specs.Prelude.{ℕ, ◌≡◌, ◌≢◌, List}
use Rattle.std.proofs.Common.{sym, ◌∙◌, ap, append-nil}
use Rattle.state.specs.World.{World}
use Rattle.state.specs.Rows.{Row}
use Rattle.capi.specs.Api.{Memory}
use Rattle.invariant.specs.Holding.{Between}
use Rattle.history.specs.Call.{Call, Did, step, run}
use Rattle.promise.specs.Code.{Made}
use Rattle.promise.proofs.CodeLaws.{made_is, made_nothing}
use Rattle.promise.specs.OnBytes.{HoldsWorld, accepted_by, taken_by, refused_by, none, next}
use Rattle.promise.proofs.RefusedLaws.{sent_nothing, nothing-accepted, nothing-taken}
use Rattle.promise.proofs.OnBytesLaws.{sends_ran}
use Rattle.strip_story.proofs.PlayLaws.{Stepped, Nothing, Lawful}
use Rattle.strip_story.specs.Layers.{done, code, Answers, bytes}

-- ---- the code

code-stepped : {m v : World} {c : Call} {n : ℕ} {accepted : List Row} {taken : List (List Row)} {w : World} → m ≡ w → Made m c n (done v accepted taken) → Stepped code w c v accepted taken
code-stepped {m} {c = c} h d =
    let e = made_is m c d ∙ ap (λ (u : World). step u c) h in
    record { holds = ap (λ (x : Did). x.world) e; accepted_are = ap (λ (x : Did). x.accepted) e; taken_are = ap (λ (x : Did). x.taken) e }

code-nothing : {m v : World} {c : Call} {n : ℕ} {accepted : List Row} {taken : List (List Row)} → Made m c n (done v accepted taken) → n ≢ 0 → Nothing code m v accepted taken
code-nothing {m} {c = c} d n =
    let e = made_nothing m c d n in
    record { same = ap (λ (x : Did). x.world) e; none-accepted = ap (λ (x : Did). x.accepted) e; none-taken = ap (λ (x : Did). x.taken) e }

pub code_lawful : Lawful code
code_lawful = record { one = λ h k. sym h ∙ k; stepped = λ g h d. code-stepped h d; nothing = λ d n. code-nothing d n }

-- ---- the C layer

-- a call is a history of one
bytes-stepped : {m n : Memory} {c : Call} {r : ℕ} {accepted : List Row} {taken : List (List Row)} {w : World} → Between w → HoldsWorld m w → Answers m c r n accepted taken → Stepped bytes w c n accepted taken
unfolding run
bytes-stepped {m} {c = c} {w = w} g h d =
    let x = sends_ran g h (next d.sent none) in
    record {
      holds = x.holds;
      accepted_are =
          d.accepted_are ∙ sym (append-nil (accepted_by m c d.answer)) ∙ x.accepted_are ∙ append-nil (step w c).accepted;
      taken_are = d.taken_are ∙ sym (append-nil (taken_by m c d.answer)) ∙ x.taken_are ∙ append-nil (step w c).taken;
    }

bytes-nothing : {m n : Memory} {c : Call} {r : ℕ} {accepted : List Row} {taken : List (List Row)} → Answers m c r n accepted taken → r ≢ 0 → Nothing bytes m n accepted taken
bytes-nothing {m} {c = c} d n =
    let f : refused_by c d.answer ≢ 0 = λ z. n (d.number_is ∙ z) in
    record {
      same = sent_nothing m c d.sent f;
      none-accepted = d.accepted_are ∙ nothing-accepted m c d.answer f;
      none-taken = d.taken_are ∙ nothing-taken m c d.answer f;
    }

pub bytes_lawful : Lawful bytes
bytes_lawful = record { one = λ h k. sym h.is ∙ k.is; stepped = λ g h d. bytes-stepped g h d; nothing = λ d n. bytes-nothing d n }
