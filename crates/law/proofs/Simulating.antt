-- A machine that does what some of the calls of a run do ends like the run and gives the same replies to them.
use Rattle.std.proofs.Common.{◌≡◌, List, [], ◌∷◌, Some, None, Option, refl, ap₂}
use Rattle.wallet.specs.Wallets.{State}
use Rattle.law.specs.Alone.{kept, requests, replies_to}
use Rattle.law.specs.Runs.{Call, Reply, carried, step, run}
use Rattle.law.specs.Services.{Service}

-- `Like cs w x`: the machine's state x is that of the wallet w, before which the calls cs still lie.
module _ {C V M X Y : Type 0} (s : Service C V M) (which : Call C → State → Option X) (act : X → Y → Reply V M × Y) (Like : List (Call C) → State → Y → Type 0)
    (passes : (c : Call C) (cs : List (Call C)) (w : State) (y : Y) → which c w ≡ None → Like (c ∷ cs) w y → Like cs (step s c w).1 y)
    (acts : (c : Call C) (cs : List (Call C)) (w : State) (y : Y) (x : X) → which c w ≡ Some x → Like (c ∷ cs) w y → ((step s c w).0 ≡ (act x y).0) × Like cs (step s c w).1 (act x y).1) where
  pub simulated : (cs : List (Call C)) (w : State) (y : Y) → Like cs w y
      → (replies_to s which cs (run s cs w).0 w ≡ (carried act (requests s which cs w) y).0) × Like [] (run s cs w).1 (carried act (requests s which cs w) y).1
  simulated [] w y like = (refl, like)
  simulated (c ∷ cs) w y like = by_call (which c w) refl (simulated cs (step s c w).1)
    where
      w' : State
      w' = (step s c w).1

      by_call : (o : Option X) → which c w ≡ o
          → ((y : Y) → Like cs w' y → (replies_to s which cs (run s cs w').0 w' ≡ (carried act (requests s which cs w') y).0) × Like [] (run s cs w').1 (carried act (requests s which cs w') y).1)
          → (kept o (λ x. (step s c w).0) (replies_to s which cs (run s cs w').0 w') ≡ (carried act (kept o (λ x. x) (requests s which cs w')) y).0)
          × Like [] (run s cs w').1 (carried act (kept o (λ x. x) (requests s which cs w')) y).1
      by_call None e rest = rest y (passes c cs w y e like)
      by_call (Some x) e rest =
          let here = acts c cs w y x e like in
          let there = rest (act x y).1 here.1 in
          (ap₂ (λ r rs. r ∷ rs) here.0 there.0, there.1)
