mod AuditLaws
mod JudgedLaws
