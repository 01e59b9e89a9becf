-- Lemmas of the program: its sessions, and what it tells.
mod ReportLemmas
mod SessionLemmas
