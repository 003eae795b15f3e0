-- A company on record, and what the history and the journal tell of it.
use Rattle.std.proofs.Common.{◌≡◌, ℕ, ◌+◌, ◌-◌, ◌≤◌, Bool, true, false, cond, ltb, List, [], ◌∷◌, ◌++◌, map, ℤ, pos, ◌+ℤ◌, ◌-ℤ◌, Some, None, Ok, Err, Option, refl, sym, ap, subst, ◌∙◌, arith}
use Rattle.std.specs.List.{range_with_len}
use Rattle.std.proofs.lemmas.Bool.{ltb-true}
use Rattle.std.proofs.lemmas.List.{append-nil}
use Rattle.std.proofs.lemmas.List.FromFn.{map-range_with_len_more}
use borrow.Author.Differences.{ints}
use Rattle.units.specs.declared.refusal.Reason.TheVariants.{AllPaid}
use Rattle.company.specs.declared.figures.TermsFigures.{TermsFigures}
use Rattle.company.specs.declared.record.Company.{Company}
use Rattle.company.specs.declared.record.Event.TheVariants.{Draw, Cancel, Send, Confirm, Bounce, Close, Reopen}
use Rattle.company.specs.declared.record.Phase.{Phase}
use Rattle.company.specs.declared.record.Phase.TheVariants.{Free, Drawn, Sent, Closed}
use Rattle.company.specs.declared.terms.Terms.{Terms}
use Rattle.company.specs.Events.{act_answer, company_after, draw_answer, reopen_answer, new_company}
use Rattle.company.specs.Instalments.{paid_up_to, instalment}
use Rattle.company.proofs.Instalments.{none_paid}
use Rattle.orders.specs.Orders.{settled}
use Rattle.booklaws.specs.JournalSums.{Advanced}
use Rattle.orders.specs.Laws.{outs}
use Rattle.opened.specs.Figures.{paid_out}
use Rattle.booklaws.proofs.CloseLaw.{close_free}
use Rattle.orders.proofs.OrderLaws.{order_laws}
use Rattle.yearly.specs.YearRules.{instalments}

pub record Story : Type 0 where
  pub terms : Option TermsFigures
  pub advances : List Advanced
  pub paid : ℤ
  pub drawn : ℕ
  pub confirmed : ℕ
  pub taken_back : ℕ
  pub closed : Bool

abbrev pub is_closed : Phase → Bool
is_closed Free = false
is_closed (Drawn k) = false
is_closed (Sent k) = false
is_closed Closed = true

-- an order that is out, of n instalments, is for the one after those that are paid
abbrev pub Next : Phase → (paid n : ℕ) → Type 0
Next Free paid n = Unit {0}
Next (Drawn k) paid n = (k ≡ paid + 1) × (k ≤ n)
Next (Sent k) paid n = (k ≡ paid + 1) × (k ≤ n)
Next Closed paid n = Unit {0}

pub record HeldBy (c : Company) (t : Story) : Type 0 where
  pub terms : t.terms ≡ Some c.terms.figures
  pub advances : t.advances ≡ instalments c.terms.figures c.paid
  pub paid : t.paid ≡ paid_out (Some c)
  pub confirmed : t.confirmed ≡ c.paid
  pub out : t.drawn ≡ outs c.phase + t.taken_back
  pub within : c.paid ≤ c.terms.figures.instalments
  pub next : Next c.phase c.paid c.terms.figures.instalments
  pub closed : t.closed ≡ is_closed c.phase

-- nothing is told of a company that did not register
pub record Untold (t : Story) : Type 0 where
  pub terms : t.terms ≡ None
  pub advances : t.advances ≡ []
  pub paid : t.paid ≡ pos 0
  pub drawn : t.drawn ≡ 0
  pub confirmed : t.confirmed ≡ 0
  pub taken_back : t.taken_back ≡ 0
  pub closed : t.closed ≡ false

abbrev pub Held : Option Company → Story → Type 0
Held None t = Untold t
Held (Some c) t = HeldBy c t

-- ---- What a granted event says of the phase
drawn_while : (some : Bool) (paid k : ℕ) → cond some (Ok (paid + 1)) (Err AllPaid) ≡ Ok k → (some ≡ true) × (k ≡ paid + 1)
drawn_while true paid k granted = (refl, cc)
drawn_while false paid k granted = cc

next_drawn : (paid n k : ℕ) → (ltb paid n ≡ true) × (k ≡ paid + 1) → (k ≡ paid + 1) × (k ≤ n)
next_drawn paid n k d =
    let less = ltb-true paid n d.0 in
    let next = d.1 in
    (next, omega arith)

draw_free : (p : Phase) (paid n k : ℕ) → draw_answer p paid n ≡ Ok k → (p ≡ Free) × (k ≡ paid + 1) × (k ≤ n)
draw_free Free paid n k granted =
    let next = next_drawn paid n k (drawn_while (ltb paid n) paid k granted) in (refl, next.0, next.1)
draw_free (Drawn j) paid n k granted = cc
draw_free (Sent j) paid n k granted = cc
draw_free Closed paid n k granted = cc

reopen_closed : (p : Phase) (k : ℕ) → reopen_answer p ≡ Ok k → p ≡ Closed
reopen_closed Free k granted = cc
reopen_closed (Drawn j) k granted = cc
reopen_closed (Sent j) k granted = cc
reopen_closed Closed k granted = refl

-- ---- Registering
pub registered_held : (terms : Terms) (f : TermsFigures) (t : Story) → terms.figures ≡ f → Untold t → HeldBy (new_company terms) (record t { terms = Some f })
registered_held terms f t made u =
    let none = none_paid terms.figures.advance terms.figures.instalments in
    record {
      terms = ap (λ (g : TermsFigures). Some g) (sym made);
      advances = u.advances;
      paid = omega (arith, ints, none, u.paid);
      confirmed = u.confirmed;
      out = omega (arith, u.drawn, u.taken_back);
      within = omega arith;
      next = tt;
      closed = u.closed;
    }

-- ---- Events
module _ (c : Company) (t : Story) (held : HeldBy c t) where
  next_at : (p : Phase) → c.phase ≡ p → Next p c.paid c.terms.figures.instalments
  next_at p at = subst (λ (q : Phase). Next q c.paid c.terms.figures.instalments) at held.next

  pub draw_held : (k : ℕ) → act_answer c Draw ≡ Ok k → HeldBy (company_after c Draw (Ok k)) (record t { drawn = 1 + t.drawn })
  draw_held k granted =
      let free = draw_free c.phase c.paid c.terms.figures.instalments k granted in
      let none = ap outs free.0 in
      record {
        terms = held.terms;
        advances = held.advances;
        paid = held.paid;
        confirmed = held.confirmed;
        out = omega (arith, none, held.out);
        within = held.within;
        next = (free.1, free.2);
        closed = held.closed ∙ ap is_closed free.0;
      }

  pub cancel_held : (j k : ℕ) → act_answer c (Cancel j) ≡ Ok k → HeldBy (company_after c (Cancel j) (Ok k)) (record t { taken_back = 1 + t.taken_back })
  cancel_held j k granted =
      let out = (order_laws.cancelled c j k granted).1 in
      let one = ap outs out in
      record {
        terms = held.terms;
        advances = held.advances;
        paid = held.paid;
        confirmed = held.confirmed;
        out = omega (arith, one, held.out);
        within = held.within;
        next = tt;
        closed = held.closed ∙ ap is_closed out;
      }

  pub send_held : (j k : ℕ) → act_answer c (Send j) ≡ Ok k → HeldBy (company_after c (Send j) (Ok k)) t
  send_held j k granted =
      let out = (order_laws.sent c j k granted).1 in
      let one = ap outs out in
      record {
        terms = held.terms;
        advances = held.advances;
        paid = held.paid;
        confirmed = held.confirmed;
        out = omega (arith, one, held.out);
        within = held.within;
        next = next_at (Drawn k) out;
        closed = held.closed ∙ ap is_closed out;
      }

  pub bounce_held : (j k : ℕ) → act_answer c (Bounce j) ≡ Ok k → HeldBy (company_after c (Bounce j) (Ok k)) (record t { taken_back = 1 + t.taken_back })
  bounce_held j k granted =
      let out = (order_laws.bounced c j k granted).1 in
      let one = ap outs out in
      record {
        terms = held.terms;
        advances = held.advances;
        paid = held.paid;
        confirmed = held.confirmed;
        out = omega (arith, one, held.out);
        within = held.within;
        next = tt;
        closed = held.closed ∙ ap is_closed out;
      }

  -- what is confirmed is the next instalment
  pub confirm_next : (j k : ℕ) → act_answer c (Confirm j) ≡ Ok k → (k ≡ c.paid + 1) × (k ≤ c.terms.figures.instalments)
  confirm_next j k granted = next_at (Sent k) (order_laws.confirmed c j k granted).1

  abbrev pub amount : ℕ → ℤ
  amount k = instalment c.terms.figures.advance c.terms.figures.instalments k

  pub paid_more : (j k : ℕ) → act_answer c (Confirm j) ≡ Ok k → paid_out (Some (company_after c (Confirm j) (Ok k))) ≡ paid_out (Some c) +ℤ amount k
  paid_more j k granted =
      let next = (confirm_next j k granted).0 in
      let before : k - 1 ≡ c.paid = omega arith in
      let old = ap (paid_up_to c.terms.figures.advance c.terms.figures.instalments) before in
      omega (arith, ints)

  pub confirm_held : (j k : ℕ) → act_answer c (Confirm j) ≡ Ok k → HeldBy (company_after c (Confirm j) (Ok k)) (record t { advances = t.advances ++ (k, record { 0 = amount k }) ∷ []; paid = t.paid +ℤ amount k; confirmed = 1 + t.confirmed; taken_back = 1 + t.taken_back })
  confirm_held j k granted =
      let out = (order_laws.confirmed c j k granted).1 in
      let one = ap outs out in
      let confirmed = confirm_next j k granted in
      let next = confirmed.0 in
      let more = paid_more j k granted in
      let advanced : ℕ → Advanced = λ i. (i, record { 0 = amount i }) in
      record {
        terms = held.terms;
        advances =
            ap (λ (xs : List Advanced). xs ++ advanced k ∷ []) held.advances
            ∙ sym (map-range_with_len_more advanced 1 c.paid k (omega arith))
            ∙ ap (λ (n : ℕ). map advanced (range_with_len 1 n)) (sym next);
        paid = omega (arith, ints, more, held.paid);
        confirmed = omega (arith, next, held.confirmed);
        out = omega (arith, one, held.out);
        within = confirmed.1;
        next = tt;
        closed = held.closed ∙ ap is_closed out;
      }

  -- closing brings the balances to z
  pub close_held : (k : ℕ) (z : ℤ) → act_answer c Close ≡ Ok k → HeldBy (settled (company_after c Close (Ok k)) z) (record t { advances = t.advances ++ []; paid = t.paid +ℤ (z -ℤ c.balances); closed = true })
  close_held k z granted =
      let free = close_free c.phase k granted in
      let none = ap outs free in
      record {
        terms = held.terms;
        confirmed = held.confirmed;
        advances = append-nil t.advances ∙ held.advances;
        paid = omega (arith, ints, held.paid);
        out = omega (arith, none, held.out);
        within = held.within;
        next = tt;
        closed = refl;
      }

  pub reopen_held : (k : ℕ) → act_answer c Reopen ≡ Ok k → HeldBy (company_after c Reopen (Ok k)) (record t { closed = false })
  reopen_held k granted =
      let closed = reopen_closed c.phase k granted in
      let none = ap outs closed in
      record {
        terms = held.terms;
        advances = held.advances;
        paid = held.paid;
        confirmed = held.confirmed;
        out = omega (arith, none, held.out);
        within = held.within;
        next = tt;
        closed = refl;
      }
