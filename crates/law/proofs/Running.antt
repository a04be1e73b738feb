-- A run put together call by call.
use Rattle.std.proofs.lemmas.Grind.{common_steps}
use Rattle.std.proofs.Common.{arith}
use Rattle.std.proofs.Common.{◌≡◌, List, [], ◌∷◌, ◌++◌, refl, ap, subst}
use Rattle.wallet.specs.Wallets.{State}
use Rattle.law.specs.Alone.{Ran}
use Rattle.law.specs.Runs.{Call, Reply, carried, step, SoundWallet}
use Rattle.law.specs.Services.{Service}
use Rattle.law.proofs.Keeping.{run-leads}

module _ {X W R : Type 0} (act : X → W → R × W) where
  carried-more : (xs : List X) (x : X) (w : W) → carried act (xs ++ x ∷ []) w ≡ ((carried act xs w).0 ++ (act x (carried act xs w).1).0 ∷ [], (act x (carried act xs w).1).1)
  carried-more [] x w = refl
  carried-more (y ∷ ys) x w = ap (λ (out : List R × W). ((act y w).0 ∷ out.0, out.1)) (carried-more ys x (act y w).1)

module _ {C V M : Type 0} (s : Service C V M) where
  pub ran_none : (w : State) → Ran s w [] [] w
  ran_none w = refl

  -- one call more
  pub ran_more : (w : State) (calls : List (Call C)) (replies : List (Reply V M)) (w' : State) → Ran s w calls replies w'
      → (c : Call C) (r : Reply V M) (w'' : State) → step s c w' ≡ (r, w'') → Ran s w (calls ++ c ∷ []) (replies ++ r ∷ []) w''
  ran_more w calls replies w' ran c r w'' did = grind (arith, common_steps, carried-more)

  -- a run from a sound wallet leaves one
  pub ran_sound : (w : State) (calls : List (Call C)) (replies : List (Reply V M)) (w' : State) → SoundWallet w → Ran s w calls replies w' → SoundWallet w'
  ran_sound w calls replies w' sound ran = subst (λ (out : List (Reply V M) × State). SoundWallet out.1) ran (run-leads s calls w sound).sound
