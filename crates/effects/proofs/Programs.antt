-- How programs are put together, and how such a one runs. Assumes nothing.
use Rattle.std.proofs.Common.{◌≡◌, ℕ, Bool, true, false, cond, refl}
use Rattle.refusals.specs.declared.Refusal.{Refusal}
use Rattle.store.specs.Names.{read_at}
use Rattle.effects.specs.Effects.{Program, return, fail, visit, byte, put, ask, ◌>>=◌, Limits, State, visited, printed, assigned, Outcome, done, refused, exec}

pub bind_assoc : {A B C : Type 0} (m : Program A) (f : A → Program B) (g : B → Program C) → m >>= f >>= g ≡ m >>= (λ a. f a >>= g)
bind_assoc (return a) f g = refl
bind_assoc (fail e p) f g = refl
bind_assoc (visit p m) f g = λ i. visit p (bind_assoc m f g i)
bind_assoc (byte b p m) f g = λ i. byte b p (bind_assoc m f g i)
bind_assoc (put k v p m) f g = λ i. put k v p (bind_assoc m f g i)
bind_assoc (ask k h) f g = λ i. ask k (λ v. bind_assoc (h v) f g i)

pub bind_return : {A : Type 0} (m : Program A) → m >>= return ≡ m
bind_return (return a) = refl
bind_return (fail e p) = refl
bind_return (visit p m) = λ i. visit p (bind_return m i)
bind_return (byte b p m) = λ i. byte b p (bind_return m i)
bind_return (put k v p m) = λ i. put k v p (bind_return m i)
bind_return (ask k h) = λ i. ask k (λ v. bind_return (h v) i)

-- a run that goes on where another has ended
abbrev pub on : {A B : Type 0} → Limits → Outcome A → (A → Program B) → Outcome B
on L (done a s) f = exec L (f a) s
on L (refused r p s) f = refused r p s

-- a run that is refused goes no further
guarded : {A B : Type 0} (L : Limits) (f : A → Program B) (b : Bool) (x : Outcome A) (y : Outcome B) (r : Refusal) (p : ℕ) (s : State) → y ≡ on L x f → cond b y (refused r p s) ≡ on L (cond b x (refused r p s)) f
guarded L f true x y r p s h = h
guarded L f false x y r p s h = refl

pub exec_bind : {A B : Type 0} (L : Limits) (m : Program A) (f : A → Program B) (s : State) → exec L (m >>= f) s ≡ on L (exec L m s) f
exec_bind L (return a) f s = refl
exec_bind L (fail e p) f s = refl
exec_bind L (visit p m) f s = guarded L f _ _ _ _ p s (exec_bind L m f (visited s))
exec_bind L (byte b p m) f s = guarded L f _ _ _ _ p s (exec_bind L m f (printed b s))
exec_bind L (put k v p m) f s = guarded L f _ _ _ _ p s (exec_bind L m f (assigned k v s))
exec_bind L (ask k g) f s = exec_bind L (g (read_at k s.names)) f s
